-- Bytes in bulk: while no byte of a stretch but its last can settle anything, taking the stretch at once is taking it byte by byte.
-- It holds up to the 17th byte, and from there up to the announced length.
use mathlib.Core.Bool.{Bool, cond}
use mathlib.Core.List.{List, [], ◌∷◌, ◌++◌}
use mathlib.Core.Path.{◌≡◌, refl, ap, sym, ◌∙◌}
use Prim.Native.Nat.{ℕ, suc, ◌≤◌, ◌<◌, ◌+◌}
use native.Mathlib.Omega.{arith}
use borrow.Author.Tests.{lt-ltb}
use lib.ListN.{length, take, set, length-set}
use lib.Seq.{sets}
use Rattle.envelope.specs.Announcing.{announces, announcing}
use Rattle.envelope.specs.Layout.{header_size}
use Rattle.feed.specs.Feeding.{State, still, FeedOutcome, closing, finding_by, further_by, nothing, byte_in, taking}
use Rattle.feed.specs.Helpers.{opened, outcome_at}
use Rattle.feed.specs.Verdict.{room, Verdict, more, complete, refused, verdict}
use Rattle.feed.proofs.LaidLaws.{in_length}
use Rattle.feed.proofs.VerdictLaws.{verdict_short, verdict_more, announcing_grown}

-- ---- one byte

-- going on from n bytes that gave a verdict
abbrev pub on_from : Verdict → List ℕ → ℕ → ℕ → FeedOutcome → FeedOutcome
on_from v k n used later = further_by (finding_by v n) (closing v k n used) later

same_later : (v : Verdict) (k : List ℕ) (n used : ℕ) (rest : List ℕ)
    → on_from v k n used (taking (closing v k n used).state rest) ≡ on_from v k n used (taking (opened k n) rest)
same_later more k n used rest = refl
same_later (complete f) k n used rest = refl
same_later (refused f) k n used rest = refl

pub byte_in_lem : (k : List ℕ) (n x : ℕ) → n < room
    → byte_in (opened k n) x ≡ closing (verdict (take (suc n) (set k n x))) (set k n x) (suc n) 1
unfolding byte_in
byte_in_lem k n x h =
    ap (λ (m : ℕ). closing (verdict (take (suc m) (set k m x))) (set k m x) (suc m) 1) (ap (λ (b : Bool). cond b n 0) (lt-ltb n room h))

pub taking_nil : (s : State) → taking s [] ≡ still s
unfolding taking
taking_nil s = refl

pub taking_cons : (s : State) (x : ℕ) (rest : List ℕ) (o : FeedOutcome) → byte_in s x ≡ o
    → taking s (x ∷ rest) ≡ further_by o.finding o (taking o.state rest)
unfolding taking
taking_cons s x rest o e = ap (λ (p : FeedOutcome). further_by p.finding p (taking p.state rest)) e

pub one_byte : (k : List ℕ) (n x : ℕ) (rest : List ℕ) → n < room
    → taking (opened k n) (x ∷ rest) ≡ outcome_at (set k n x) (suc n) 1 rest
one_byte k n x rest h =
    taking_cons (opened k n) x rest _ (byte_in_lem k n x h)
    ∙ same_later (verdict (take (suc n) (set k n x))) (set k n x) (suc n) 1 rest

-- ---- a stretch

-- one byte more was used before it
used_before : (v : Verdict) (k : List ℕ) (n u : ℕ) (now later : FeedOutcome) → now.used ≡ 1
    → further_by nothing now (on_from v k n u later) ≡ on_from v k n (suc u) later
used_before more k n u now later e = λ i. record { state = later.state; used = sum i; finding = later.finding }
  where
    sum : now.used + (u + later.used) ≡ suc u + later.used
    sum = omega arith
used_before (complete f) k n u now later e = λ i. record { state = (closing (complete f) k n u).state; used = sum i; finding = finding_by (complete f) n }
  where
    sum : now.used + u ≡ suc u
    sum = omega arith
used_before (refused f) k n u now later e = λ i. record { state = (closing (refused f) k n u).state; used = sum i; finding = finding_by (refused f) n }
  where
    sum : now.used + u ≡ suc u
    sum = omega arith

quiet_byte : (k : List ℕ) (n x : ℕ) (rest : List ℕ) → n < room → verdict (take (suc n) (set k n x)) ≡ more
    → taking (opened k n) (x ∷ rest) ≡ further_by nothing (closing more (set k n x) (suc n) 1) (taking (opened (set k n x) (suc n)) rest)
quiet_byte k n x rest h e =
    one_byte k n x rest h ∙ ap (λ (v : Verdict). on_from v (set k n x) (suc n) 1 (taking (opened (set k n x) (suc n)) rest)) e

-- a bound below which no byte settles anything, while Ok holds
module _ (Ok : List ℕ → ℕ → Type 0) (bound : ℕ) (bound-room : bound ≤ room)
    (quiet : (k : List ℕ) (n x : ℕ) → Ok k n → suc n < bound → (verdict (take (suc n) (set k n x)) ≡ more) × Ok (set k n x) (suc n)) where
  stretched : (l : List ℕ) (x : ℕ) (k : List ℕ) (n : ℕ) (rest : List ℕ) → Ok k n → n + length (x ∷ l) ≤ bound
      → taking (opened k n) (x ∷ (l ++ rest)) ≡ outcome_at (sets (set k n x) (suc n) l) (suc n + length l) (suc (length l)) rest
  stretched [] x k n rest ok h =
      let end : suc n ≡ suc n + 0 = omega arith in
      one_byte k n x rest (omega arith) ∙ ap (λ (m : ℕ). outcome_at (set k n x) m 1 rest) end
  stretched (y ∷ l) x k n rest ok h =
      let q = quiet k n x ok (omega arith) in
      let k' = set k n x in
      let all = sets (set k' (suc n) y) (suc (suc n)) l in
      let end : suc n + length (y ∷ l) ≡ suc (suc n) + length l = omega arith in
      quiet_byte k n x (y ∷ (l ++ rest)) (omega arith) q.0
      ∙ ap (λ (o : FeedOutcome). further_by nothing (closing more k' (suc n) 1) o) (stretched l y k' (suc n) rest q.1 (omega arith))
      ∙ used_before (verdict (take (suc (suc n) + length l) all)) all (suc (suc n) + length l) (suc (length l)) (closing more k' (suc n) 1) (taking (opened all (suc (suc n) + length l)) rest) refl
      ∙ ap (λ (m : ℕ). outcome_at all m (suc (suc (length l))) rest) (sym end)

-- ---- up to the 17th byte

abbrev Roomy : List ℕ → ℕ → Type 0
Roomy k n = length k ≡ room

quiet_heading : (k : List ℕ) (n x : ℕ) → Roomy k n → suc n < header_size → (verdict (take (suc n) (set k n x)) ≡ more) × Roomy (set k n x) (suc n)
quiet_heading k n x ok h = (
  verdict_short (take (suc n) (set k n x)) (omega (arith, in_length k n x (omega arith))),
  length-set k n x ∙ ok,
)

-- ---- up to the announced length

pub record Known (w : ℕ) (k : List ℕ) (n : ℕ) : Type 0 where
  pub roomy : length k ≡ room
  pub long : header_size ≤ n
  pub says : announcing (take n k) ≡ announces w

quiet_body : (w : ℕ) → w ≤ room → (k : List ℕ) (n x : ℕ) → Known w k n → suc n < w
    → (verdict (take (suc n) (set k n x)) ≡ more) × Known w (set k n x) (suc n)
quiet_body w hw k n x ok h =
    let e = announcing_grown k n x w (omega arith) ok.long ok.says in (
      verdict_more (take (suc n) (set k n x)) w e hw (omega (arith, in_length k n x (omega arith))),
      record { roomy = length-set k n x ∙ ok.roomy; long = omega arith; says = e },
    )

-- ---- as the code takes them: a part that is not empty, and the rest

part_of : (l : List ℕ) (k : List ℕ) (n : ℕ) (rest : List ℕ)
    → ((x : ℕ) (m : List ℕ) → l ≡ x ∷ m → taking (opened k n) (x ∷ (m ++ rest)) ≡ outcome_at (sets (set k n x) (suc n) m) (suc n + length m) (suc (length m)) rest)
    → 0 < length l → taking (opened k n) (l ++ rest) ≡ outcome_at (sets k n l) (n + length l) (length l) rest
part_of [] k n rest f h = absurd (omega arith)
part_of (x ∷ m) k n rest f h =
    let end : suc n + length m ≡ n + length (x ∷ m) = omega arith in
    f x m refl ∙ ap (λ (e : ℕ). outcome_at (sets (set k n x) (suc n) m) e (suc (length m)) rest) end

pub up_to_heading : (k l rest : List ℕ) (n : ℕ) → length k ≡ room → 0 < length l → n + length l ≤ header_size
    → taking (opened k n) (l ++ rest) ≡ outcome_at (sets k n l) (n + length l) (length l) rest
up_to_heading k l rest n hk h b =
    part_of l k n rest (λ x m e. stretched Roomy header_size (omega arith) quiet_heading m x k n rest hk (omega (arith, ap length e))) h

pub up_to_announced : (k l rest : List ℕ) (n w : ℕ) → Known w k n → w ≤ room → 0 < length l → n + length l ≤ w
    → taking (opened k n) (l ++ rest) ≡ outcome_at (sets k n l) (n + length l) (length l) rest
up_to_announced k l rest n w ok hw h b =
    part_of l k n rest (λ x m e. stretched (Known w) w hw (quiet_body w hw) m x k n rest ok (omega (arith, ap length e))) h

pub up_to_one : (k l rest : List ℕ) (n : ℕ) → n < room → length l ≡ 1
    → taking (opened k n) (l ++ rest) ≡ outcome_at (sets k n l) (n + length l) (length l) rest
up_to_one k [] rest n h e = absurd (omega arith)
up_to_one k (x ∷ []) rest n h e = let end : suc n ≡ n + length (x ∷ []) = omega arith in one_byte k n x rest h ∙ ap (λ (m : ℕ). outcome_at (set k n x) m 1 rest) end
up_to_one k (x ∷ y ∷ m) rest n h e = absurd (omega arith)
