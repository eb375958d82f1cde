-- Laws of a record: what zeros behind its message are, and what a judgement says of its parts.
-- `Good` has everything that a good record keeps, be it live or retired.
use mathlib.Core.Bool.{Bool, true, false, not}
use mathlib.Core.List.{List, [], ◌∷◌}
use mathlib.Core.Path.{◌≡◌, refl, ap, sym, ◌∙◌}
use Prim.Native.Nat.{ℕ, zero, suc, ◌+◌, ◌-◌, ◌*◌, ◌≤◌, ◌<◌}
use native.Mathlib.Omega.{arith}
use borrow.Author.Tests.{eq-eqb, eqb-true, le-ltb, ltb-false, not-false}
use lib.Dec.{eqb, ltb}
use lib.ListN.{length, take, drop, get_or, length-drop}
use lib.Seq.{get_or-drop, take_all, length-take-le}
use Rattle.envelope.proofs.BoolLaws.{both, neither, past}
use Rattle.envelope.specs.Fields.{Fields, Answer, accepted, refused}
use Rattle.envelope.specs.Layout.{least_size}
use Rattle.envelope.specs.Reading.{reading}
use Rattle.envelope.specs.Refusals.{Refused}
use Rattle.golden.specs.File.{count_of, record_at}
use Rattle.golden.specs.Record.{record_size, head_size, message_room, is_retired, stored_length, message_of, all_zero, bad_length, not_clear, good, bad, by_reading, judging}

-- where all are zero, each is; and back
zeros_each : (s : List ℕ) (i : ℕ) → all_zero s ≡ true → get_or s i 0 ≡ 0
unfolding all_zero
zeros_each [] i e = refl
zeros_each (b ∷ s) zero e = eqb-true b 0 (both (eqb b 0) (all_zero s) e).0
zeros_each (b ∷ s) (suc i) e = zeros_each s i (both (eqb b 0) (all_zero s) e).1

each_zero : (s : List ℕ) → ((i : ℕ) → get_or s i 0 ≡ 0) → all_zero s ≡ true
unfolding all_zero
each_zero [] h = refl
each_zero (b ∷ s) h = rw (eq-eqb b 0 (h 0)) (each_zero s (λ i. h (suc i)))

-- a part that ends at the end
pub part_to_end : (k l : ℕ) (r : List ℕ) → length r ≡ l → take (l - k) (drop k r) ≡ drop k r
part_to_end k l r e = take_all (l - k) (drop k r) (omega (arith, length-drop k r))

-- ---- a length that is not refused

pub length_least : (l : ℕ) → bad_length l ≡ false → least_size ≤ l
unfolding bad_length
length_least l e = ltb-false l least_size (neither (ltb l least_size) (ltb message_room l) e).0

pub length_most : (l : ℕ) → bad_length l ≡ false → l ≤ message_room
unfolding bad_length
length_most l e = ltb-false message_room l (neither (ltb l least_size) (ltb message_room l) e).1

pub length_kept : (l : ℕ) → least_size ≤ l → l ≤ message_room → bad_length l ≡ false
unfolding bad_length
length_kept l h k = rw (le-ltb l least_size h, le-ltb message_room l k)

-- ---- a good record

pub record Good (r : List ℕ) (retired : Bool) (f : Fields) : Type 0 where
  pub least : least_size ≤ stored_length r
  pub most : stored_length r ≤ message_room
  pub clear : (i : ℕ) → head_size + stored_length r ≤ i → get_or r i 0 ≡ 0
  pub accepts : reading (message_of r) ≡ accepted f
  pub mark : retired ≡ is_retired r

-- every byte after the message is zero, and back
pub clear_behind : (r : List ℕ) → not_clear r ≡ false → (i : ℕ) → head_size + stored_length r ≤ i → get_or r i 0 ≡ 0
clear_behind r e i h =
    let n = head_size + stored_length r in
    let at : n + (i - n) ≡ i = omega arith in
    rw at at (sym (get_or-drop n r (i - n) 0) ∙ zeros_each (drop n r) (i - n) (not-false (all_zero (drop n r)) e))

behind_clear : (r : List ℕ) → ((i : ℕ) → head_size + stored_length r ≤ i → get_or r i 0 ≡ 0) → not_clear r ≡ false
behind_clear r h =
    let n = head_size + stored_length r in
    ap not (each_zero (drop n r) (λ i. get_or-drop n r i 0 ∙ h (n + i) (omega arith)))

pub bad_is_not_good : {x : Refused} {retired : Bool} {f : Fields} → bad x ≡ good retired f → ⊥
bad_is_not_good e = let z : ◌≡◌ {A = ℕ} 0 1 = cc in omega arith

by_reading_lem : (mark : Bool) (a : Answer) (retired : Bool) (f : Fields) → by_reading mark a ≡ good retired f → (a ≡ accepted f) × (retired ≡ mark)
by_reading_lem mark (accepted g) retired f e = (cc, cc)
by_reading_lem mark (refused r) retired f e = (cc, cc)

pub good_record : (r : List ℕ) (retired : Bool) (f : Fields) → judging r ≡ good retired f → Good r retired f
unfolding judging
good_record r retired f e =
    let p = past (bad_length (stored_length r)) bad_is_not_good e in
    let q = past (not_clear r) bad_is_not_good p.1 in
    let a = by_reading_lem (is_retired r) (reading (message_of r)) retired f q.1 in
    record {
      least = length_least (stored_length r) p.0;
      most = length_most (stored_length r) p.0;
      clear = clear_behind r q.0;
      accepts = a.0;
      mark = a.1;
    }

pub record_good : (r : List ℕ) (retired : Bool) (f : Fields) → Good r retired f → judging r ≡ good retired f
unfolding judging
record_good r retired f g = rw (length_kept (stored_length r) g.least g.most, behind_clear r g.clear, g.accepts, g.mark)

-- ---- how long they are

pub record_long : (f : List ℕ) (n : ℕ) → n < count_of f → length (record_at f n) ≡ record_size
record_long f n l = length-take-le record_size (drop (n * record_size) f) (rw length-drop (omega arith))

pub message_long : (f : List ℕ) (n : ℕ) → n < count_of f → stored_length (record_at f n) ≤ message_room
    → length (message_of (record_at f n)) ≡ stored_length (record_at f n)
message_long f n l short =
    length-take-le (stored_length (record_at f n)) (drop head_size (record_at f n)) (rw length-drop (omega (arith, record_long f n l)))
