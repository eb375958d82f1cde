-- A refusal leaves what was lent as it was: the list of a comparison, and the buffer of a record to be made.
-- By the outcome: only one that is no refusal writes.
use mathlib.Core.Bool.{Bool, true, false, cond}
use mathlib.Core.List.{List}
use mathlib.Core.Path.{◌≡◌, refl, sym, ◌∙◌}
use Prim.Native.Nat.{ℕ}
use native.Mathlib.Omega.{arith}
use lib.Dec.{eqb}
use lib.ListN.{length}
use Rattle.envelope.specs.Refusals.{Refused}
use Rattle.golden.specs.Comparing as compare
use Rattle.golden.specs.Making as make
use Rattle.golden.specs.Theorems.{RefusedComparisonKeepsList, RefusedMakingKeepsBuffer}

answered : (b : Bool) (n : ℕ) (r : Refused) → cond b compare.same (compare.different n) ≡ compare.refused r → ⊥
answered true n r e = let z : ◌≡◌ {A = ℕ} 0 1 = cc in omega arith
answered false n r e = let z : ◌≡◌ {A = ℕ} 0 1 = cc in omega arith

list_kept : (o : compare.CompareOutcome) (entry : List ℕ) (r : Refused) → compare.answer_to_comparing o ≡ compare.refused r → compare.after_comparing o entry ≡ entry
unfolding compare.answer_to_comparing compare.after_comparing
list_kept (compare.refused x) entry r e = refl
list_kept (compare.positions ks) entry r e = absurd (answered (eqb (length ks) 0) (length ks) r e)

buffer_kept : (o : make.MakeAnswer) (m entry : List ℕ) (r : Refused) → o ≡ make.refused r → make.after_making o m entry ≡ entry
buffer_kept (make.refused x) m entry r e = refl
buffer_kept make.made m entry r e = absurd (let z : ◌≡◌ {A = ℕ} 0 1 = cc in omega arith)

pub refused_comparison_keeps_list : RefusedComparisonKeepsList
refused_comparison_keeps_list f n radio entry exit a r kept e = kept.1 ∙ list_kept (compare.comparing f n radio) entry r (sym kept.0 ∙ e)

pub refused_making_keeps_buffer : RefusedMakingKeepsBuffer
refused_making_keeps_buffer m entry exit a r kept e = kept.1 ∙ buffer_kept (make.making m (length entry)) m entry r (sym kept.0 ∙ e)
