-- The buckets that check uses: where a name's bucket was not used, no earlier record has the name, since two of one name have one bucket.
-- A bucket that was used stays used.
use mathlib.Core.Bool.{Bool, true, false}
use mathlib.Core.List.{List}
use mathlib.Core.Path.{◌≡◌, refl, ap, sym, ◌∙◌}
use Prim.Native.Nat.{ℕ, ◌+◌, ◌<◌}
use native.Mathlib.Decide.{dec_lt}
use native.Mathlib.Omega.{arith}
use lib.ListN.{length, get_or, set}
use lib.Seq.{get_or-set_same, get_or-set_other}
use Rattle.envelope.proofs.BoolLaws.{true_is_not_false}
use Rattle.golden.specs.File.{record_at}
use Rattle.golden.specs.Finding.{NameFields}
use Rattle.golden.specs.Helpers.{written_name, is_written, written_before, bucket_of, UsedBefore}
use Rattle.golden.proofs.FileLaws.{one_more}
use Rattle.golden.proofs.NameLaws.{written_so}
use Rattle.golden.proofs.PairingLaws.{below_none}

pub none_used : (f : List ℕ) (used : List Bool) (name : NameFields) (end : ℕ) → UsedBefore f used end → get_or used (bucket_of name) false ≡ false
    → written_before f name end ≡ false
none_used f used name end before e = below_none (λ k. is_written name (record_at f k)) end (λ k l. by k l (is_written name (record_at f k)) refl)
  where
    by : (k : ℕ) → k < end → (b : Bool) → is_written name (record_at f k) ≡ b → b ≡ false
    by k l false q = refl
    by k l true q =
        let here = ap (λ (x : NameFields). get_or used (bucket_of x) false) (sym (written_so name (record_at f k) q)) in
        absurd (true_is_not_false (here ∙ before k l) e)

pub used_on : (f : List ℕ) (used : List Bool) (n bucket : ℕ) → bucket < length used → bucket_of (written_name (record_at f n)) ≡ bucket → UsedBefore f used n
    → UsedBefore f (set used bucket true) (n + 1)
used_on f used n bucket l e before =
    one_more (λ k. get_or (set used bucket true) (bucket_of (written_name (record_at f k))) false ≡ true) n
    (λ k b. kept (bucket_of (written_name (record_at f k))) (before k b))
    (ap (λ (s : ℕ). get_or (set used bucket true) s false) e ∙ get_or-set_same used bucket true false l)
  where
    kept : (other : ℕ) → get_or used other false ≡ true → get_or (set used bucket true) other false ≡ true
    kept other h = by (dec_lt other bucket) (dec_lt bucket other)
      where
        by : Dec (other < bucket) → Dec (bucket < other) → get_or (set used bucket true) other false ≡ true
        by (yes a) b = get_or-set_other used bucket other true false (λ q. omega arith) ∙ h
        by (no a) (yes b) = get_or-set_other used bucket other true false (λ q. omega arith) ∙ h
        by (no a) (no b) =
            let q : other ≡ bucket = omega arith in
            ap (λ (s : ℕ). get_or (set used bucket true) s false) q ∙ get_or-set_same used bucket true false l
