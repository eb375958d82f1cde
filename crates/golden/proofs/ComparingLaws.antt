-- The cases of comparing two messages, and of comparing a record, from the tests of the code.
-- The step of the walk has judged the record already; its answer is taken back to the definition.
use mathlib.Core.Bool.{Bool, true, false, cond}
use mathlib.Core.List.{List}
use mathlib.Core.Path.{◌≡◌, refl, ap, sym, ◌∙◌}
use Prim.Native.Nat.{ℕ, ◌+◌, ◌<◌, max}
use native.Mathlib.Omega.{arith}
use lib.Dec.{eqb}
use lib.ListN.{length}
use Rattle.std.proofs.lemmas.Bool.Decides.{nat_tests}
use Rattle.envelope.specs.Fields.{Span, Fields}
use Rattle.envelope.specs.Reading.{reading}
use Rattle.envelope.specs.Refusals.{Refused, plainly}
use Rattle.golden.specs.Comparing.{CompareOutcome, refused, with_radio, with_record, comparing, longer, differing, positions, after_comparing, CompareAnswer, same, different, answer_to_comparing}
use Rattle.golden.specs.File.{bad_file, not_there, record_at, judged_at}
use Rattle.golden.specs.Positions.{noted}
use Rattle.golden.specs.Record.{message_of, Judged, good, bad}
use Rattle.golden.specs.Stepping.{message, refused, end, message_part, step_of, step_at}

-- one position, noted and counted or passed over
pub marked : (b x : Bool) (t : ℕ) (l l' s : List ℕ) → x ≡ b → x ≡ true → l' ≡ s → (t + 1 ≡ cond b (t + 1) t) × (l' ≡ cond b s l)
marked b x t l l' s e h q = let f : b ≡ true = sym e ∙ h in (rw f, rw f q)

pub passed_over : (b x : Bool) (t : ℕ) (l s : List ℕ) → x ≡ b → x ≡ false → (t ≡ cond b (t + 1) t) × (l ≡ cond b s l)
passed_over b x t l s e h = let f : b ≡ false = sym e ∙ h in (rw f, rw f)

pub longer_is : (g r : List ℕ) → max (length g) (length r) ≡ longer g r
longer_is g r = grind (arith, nat_tests)

pub longer_below : (g r : List ℕ) (m : ℕ) → length g < m → length r < m → longer g r < m
longer_below g r m h k = rw (← longer_is g r) (omega (arith, h, k))

-- the answer by the total of the positions
pub totalled : (ks l l' : List ℕ) (t : ℕ) → t ≡ length ks → l' ≡ noted ks l
    → (cond (eqb t 0) same (different t) ≡ answer_to_comparing (positions ks)) × (l' ≡ after_comparing (positions ks) l)
unfolding answer_to_comparing after_comparing
totalled ks l l' t e n = (rw e, n)

-- ---- comparing a record, from the answer of a step

refused_so : (f : List ℕ) (n : ℕ) (g radio : List ℕ) (a b : Bool) (j : Judged) (x : Refused)
    → refused x ≡ cond a (refused (plainly 21)) (cond b end (step_of f n j))
    → cond a (refused (plainly 21)) (cond b (refused (plainly 22)) (with_record g radio j)) ≡ refused x
refused_so f n g radio true b j x e = cc
refused_so f n g radio false true j x e = cc
refused_so f n g radio false false (bad y) x e = cc
refused_so f n g radio false false (good retired fields) x e = cc

end_so : (f : List ℕ) (n : ℕ) (g radio : List ℕ) (a b : Bool) (j : Judged) → end ≡ cond a (refused (plainly 21)) (cond b end (step_of f n j))
    → cond a (refused (plainly 21)) (cond b (refused (plainly 22)) (with_record g radio j)) ≡ refused (plainly 22)
end_so f n g radio true b j e = cc
end_so f n g radio false true j e = refl
end_so f n g radio false false (bad y) e = cc
end_so f n g radio false false (good retired fields) e = cc

-- a message was answered: the record is good, and the part is its message's
pub record Answered (f : List ℕ) (n : ℕ) (radio : List ℕ) (retired : Bool) (p : Span) : Type 0 where
  pub fields : Fields
  pub judged : judged_at f n ≡ good retired fields
  pub part : p ≡ message_part f n
  pub compared : comparing f n radio ≡ cond retired (refused (plainly 38)) (with_radio (message_of (record_at f n)) radio (reading radio))

record Kept (f : List ℕ) (n : ℕ) (g radio : List ℕ) (a b : Bool) (j : Judged) (retired : Bool) (p : Span) : Type 0 where
  fields : Fields
  judged : j ≡ good retired fields
  part : p ≡ message_part f n
  compared : cond a (refused (plainly 21)) (cond b (refused (plainly 22)) (with_record g radio j)) ≡ cond retired (refused (plainly 38)) (with_radio g radio (reading radio))

message_so : (f : List ℕ) (n : ℕ) (g radio : List ℕ) (a b : Bool) (j : Judged) (retired : Bool) (p : Span)
    → message retired p ≡ cond a (refused (plainly 21)) (cond b end (step_of f n j))
    → Kept f n g radio a b j retired p
message_so f n g radio true b j retired p e = absurd (let z : ◌≡◌ {A = ℕ} 0 1 = cc in omega arith)
message_so f n g radio false true j retired p e = absurd (let z : ◌≡◌ {A = ℕ} 0 1 = cc in omega arith)
message_so f n g radio false false (bad y) retired p e = absurd (let z : ◌≡◌ {A = ℕ} 0 1 = cc in omega arith)
message_so f n g radio false false (good mark x) retired p e =
    let same : mark ≡ retired = cc in
    record {
      fields = x;
      judged = ap (λ (b : Bool). good b x) same;
      part = cc;
      compared = ap (λ (b : Bool). cond b (refused (plainly 38)) (with_radio g radio (reading radio))) same;
    }

module _ (f : List ℕ) (n : ℕ) (radio : List ℕ) where
  pub by_refused : (x : Refused) → refused x ≡ step_at f n → comparing f n radio ≡ refused x
  unfolding step_at comparing
  by_refused x e = refused_so f n (message_of (record_at f n)) radio (bad_file f) (not_there f n) (judged_at f n) x e

  pub by_end : end ≡ step_at f n → comparing f n radio ≡ refused (plainly 22)
  unfolding step_at comparing
  by_end e = end_so f n (message_of (record_at f n)) radio (bad_file f) (not_there f n) (judged_at f n) e

  pub by_message : (retired : Bool) (p : Span) → message retired p ≡ step_at f n → Answered f n radio retired p
  unfolding step_at comparing
  by_message retired p e =
      let k = message_so f n (message_of (record_at f n)) radio (bad_file f) (not_there f n) (judged_at f n) retired p e in
      record { fields = k.fields; judged = k.judged; part = k.part; compared = k.compared }

-- and whether it is live decides
pub compared_38 : (o x : CompareOutcome) (retired : Bool) → o ≡ cond retired (refused (plainly 38)) x → retired ≡ true → o ≡ refused (plainly 38)
compared_38 o x retired e r = rw r at e

pub compared_live : (o x : CompareOutcome) (retired : Bool) → o ≡ cond retired (refused (plainly 38)) x → retired ≡ false → o ≡ x
compared_live o x retired e r = rw r at e

pub refuses : (o : CompareOutcome) (x : Refused) (l : List ℕ) → o ≡ refused x → (refused x ≡ answer_to_comparing o) × (l ≡ after_comparing o l)
unfolding answer_to_comparing after_comparing
refuses o x l e = (rw e, rw e)

-- two messages are compared under another name of the first
pub compares_same : (o : CompareOutcome) (g h r l₀ l : List ℕ) (x : CompareAnswer) → g ≡ h → o ≡ positions (differing h r)
    → (x ≡ answer_to_comparing (positions (differing g r))) × (l ≡ after_comparing (positions (differing g r)) l₀) → (x ≡ answer_to_comparing o) × (l ≡ after_comparing o l₀)
compares_same o g h r l₀ l x eg eo c = rw (eo, ← eg) c
