-- The cases of retiring, from the answer of a step; and what `done` says of file, record and room.
-- The step of the walk has judged the record already; its answer is taken back to the definition.
use mathlib.Core.Bool.{Bool, true, false, cond, not}
use mathlib.Core.List.{List}
use mathlib.Core.Path.{◌≡◌, refl, ap}
use Prim.Native.Nat.{ℕ, ◌+◌, ◌*◌, ◌<◌}
use native.Mathlib.Omega.{arith}
use borrow.Author.Tests.{eqb-true, eq-eqb, ne_eqb, leb-false}
use lib.Dec.{eqb}
use lib.ListN.{length, set}
use Rattle.envelope.specs.Fields.{Span, Fields}
use Rattle.envelope.specs.Numbers.{byte_at}
use Rattle.envelope.specs.Refusals.{Refused, plainly}
use Rattle.golden.specs.File.{bad_file, count_of, not_there, judged_at}
use Rattle.golden.specs.Record.{record_size, Judged, good, bad}
use Rattle.golden.specs.Retiring.{top_bit, marked, RetireAnswer, done, refused, retiring_judged, retiring}
use Rattle.golden.specs.Stepping.{end, step_of, step_at}
use Rattle.golden.specs.Stepping as step

-- ---- from the answer of a step

module _ (f : List ℕ) (n room : ℕ) where
  refused_so : (a b : Bool) (j : Judged) (x : Refused) → step.refused x ≡ cond a (step.refused (plainly 21)) (cond b end (step_of f n j))
      → refused x ≡ cond a (refused (plainly 21)) (cond b (refused (plainly 22)) (retiring_judged j (length f) room))
  refused_so true b j x e = cc
  refused_so false true j x e = cc
  refused_so false false (bad y) x e = cc
  refused_so false false (good retired fields) x e = cc

  end_so : (a b : Bool) (j : Judged) → end ≡ cond a (step.refused (plainly 21)) (cond b end (step_of f n j))
      → refused (plainly 22) ≡ cond a (refused (plainly 21)) (cond b (refused (plainly 22)) (retiring_judged j (length f) room))
  end_so true b j e = cc
  end_so false true j e = refl
  end_so false false (bad y) e = cc
  end_so false false (good retired fields) e = cc

  -- 36, then 37
  abbrev live : Bool → RetireAnswer
  live retired = cond retired (refused (plainly 36)) (cond (not (eqb room (length f))) (refused (plainly 37)) done)

  message_so : (a b : Bool) (j : Judged) (retired : Bool) (p : Span) → step.message retired p ≡ cond a (step.refused (plainly 21)) (cond b end (step_of f n j))
      → live retired ≡ cond a (refused (plainly 21)) (cond b (refused (plainly 22)) (retiring_judged j (length f) room))
  message_so true b j retired p e = absurd (let z : ◌≡◌ {A = ℕ} 0 1 = cc in omega arith)
  message_so false true j retired p e = absurd (let z : ◌≡◌ {A = ℕ} 0 1 = cc in omega arith)
  message_so false false (bad y) retired p e = absurd (let z : ◌≡◌ {A = ℕ} 0 1 = cc in omega arith)
  message_so false false (good mark x) retired p e = let same : retired ≡ mark = cc in ap live same

  pub retire_refused : (x : Refused) → step.refused x ≡ step_at f n → refused x ≡ retiring f n room
  unfolding step_at retiring
  retire_refused x e = refused_so (bad_file f) (not_there f n) (judged_at f n) x e

  pub retire_end : end ≡ step_at f n → refused (plainly 22) ≡ retiring f n room
  unfolding step_at retiring
  retire_end e = end_so (bad_file f) (not_there f n) (judged_at f n) e

  module _ (retired : Bool) (p : Span) (e : step.message retired p ≡ step_at f n) where
    by_message : live retired ≡ retiring f n room
    unfolding step_at retiring
    by_message = message_so (bad_file f) (not_there f n) (judged_at f n) retired p e

    pub is_36 : retired ≡ true → refused (plainly 36) ≡ retiring f n room
    is_36 r = rw r at by_message

    pub is_37 : retired ≡ false → (room ≡ length f → ⊥) → refused (plainly 37) ≡ retiring f n room
    is_37 r ne = rw (r, ne_eqb room (length f) ne) at by_message

    pub is_done : retired ≡ false → room ≡ length f → done ≡ retiring f n room
    is_done r q = rw (r, eq-eqb room (length f) q) at by_message

-- ---- why the answer is `done`

pub record Allowed (f : List ℕ) (n room : ℕ) : Type 0 where
  pub whole : bad_file f ≡ false
  pub there : n < count_of f
  pub fields : Fields
  pub live : judged_at f n ≡ good false fields
  pub fits : room ≡ length f

fits_by : (f : List ℕ) (n room : ℕ) (fields : Fields) (b : Bool) → eqb room (length f) ≡ b → bad_file f ≡ false → not_there f n ≡ false → judged_at f n ≡ good false fields
    → cond (not b) (refused (plainly 37)) done ≡ done → Allowed f n room
fits_by f n room fields true eb h t j e =
    record { whole = h; there = leb-false (count_of f) n t; fields = fields; live = j; fits = eqb-true room (length f) eb }
fits_by f n room fields false eb h t j e = absurd (let z : ◌≡◌ {A = ℕ} 0 1 = cc in omega arith)

allowed_by : (f : List ℕ) (n room : ℕ) (a b : Bool) (j : Judged) → bad_file f ≡ a → not_there f n ≡ b → judged_at f n ≡ j
    → cond a (refused (plainly 21)) (cond b (refused (plainly 22)) (retiring_judged j (length f) room)) ≡ done → Allowed f n room
allowed_by f n room true b j ea eb ej e = absurd (let z : ◌≡◌ {A = ℕ} 0 1 = cc in omega arith)
allowed_by f n room false true j ea eb ej e = absurd (let z : ◌≡◌ {A = ℕ} 0 1 = cc in omega arith)
allowed_by f n room false false (bad r) ea eb ej e = absurd (let z : ◌≡◌ {A = ℕ} 0 1 = cc in omega arith)
allowed_by f n room false false (good true x) ea eb ej e = absurd (let z : ◌≡◌ {A = ℕ} 0 1 = cc in omega arith)
allowed_by f n room false false (good false x) ea eb ej e = fits_by f n room x (eqb room (length f)) refl ea eb ej e

pub allowed : (f : List ℕ) (n room : ℕ) → retiring f n room ≡ done → Allowed f n room
unfolding retiring
allowed f n room e = allowed_by f n room (bad_file f) (not_there f n) (judged_at f n) refl refl refl e

-- ---- the buffer

-- the file copied over a buffer of its length, and one byte set
pub copied_marked : (f : List ℕ) (n : ℕ) (x : List ℕ) → x ≡ f
    → set x (n * record_size) (top_bit + byte_at f (n * record_size)) ≡ marked f n
unfolding marked
copied_marked f n x whole = ap (λ (y : List ℕ). set y (n * record_size) (top_bit + byte_at f (n * record_size))) whole
