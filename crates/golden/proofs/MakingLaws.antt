-- The record of a message as the two copies leave it, and the cases of making one.
-- `m` is the message, and `record_of m` its record.
use mathlib.Core.List.{List, ◌∷◌, ◌++◌}
use mathlib.Core.Path.{◌≡◌, sym}
use Prim.Native.Nat.{ℕ, zero, suc, ◌+◌, ◌-◌, ◌/◌, ◌%◌, ◌≤◌, ◌<◌}
use native.Mathlib.Nat.{add-sub_cancel_left}
use native.Mathlib.Omega.{arith}
use borrow.Author.Tests.{lt-ltb, le-ltb, eq-eqb, ne_eqb}
use lib.ListN.{length, drop, replicate, length-append, length-replicate}
use Rattle.envelope.specs.Fields.{Fields, Refusal, accepted, refused}
use Rattle.envelope.specs.Reading.{reading}
use Rattle.envelope.specs.Refusals.{plainly, passing_on}
use Rattle.golden.specs.Making.{record_of, MakeAnswer, made, refused, making, after_making}
use Rattle.golden.specs.Record.{record_size, head_size, message_room}

drop_replicate : (n k : ℕ) → drop {A = ℕ} n (replicate k 0) ≡ replicate (k - n) 0
drop_replicate zero k = let e : k - 0 ≡ k = omega arith in rw e
drop_replicate (suc n) zero = let e : 0 - suc n ≡ 0 = omega arith in rw e
drop_replicate (suc n) (suc k) = let e : suc k - suc n ≡ k - n = omega arith in rw e (drop_replicate n k)

-- length, message and zeros, as the copy into a fresh record leaves them; `l` is the part copied over
pub fresh_record : (m l : List ℕ) → l ≡ m
    → (length m / 256) ∷ (length m % 256) ∷ (l ++ drop ((head_size + length m) - head_size) (replicate message_room 0)) ≡ record_of m
unfolding record_of
fresh_record m l e = rw (e, add-sub_cancel_left head_size (length m), drop_replicate (length m) message_room)

pub record_length : (m : List ℕ) → length m ≤ message_room → length (record_of m) ≡ record_size
unfolding record_of
record_length m h = rw (length-append m (replicate (message_room - length m) 0), length-replicate) (omega arith)

-- ---- the cases of making

pub no_making : (a : MakeAnswer) (m entry : List ℕ) (x : MakeAnswer) → x ≡ a → (r : _) → a ≡ refused r → (a ≡ x) × (entry ≡ after_making x m entry)
no_making a m entry x e r d = (sym e, rw (e, d))

module _ (m : List ℕ) (room : ℕ) where
  pub is_33 : message_room < length m → making m room ≡ refused (plainly 33)
  unfolding making
  is_33 h = rw (lt-ltb _ _ h)

  module _ (h : length m ≤ message_room) where
    pub is_34 : (r : Refusal) → reading m ≡ refused r → making m room ≡ refused (passing_on 34 r)
    unfolding making
    is_34 r e = rw (le-ltb _ _ h, e)

    pub is_35 : (f : Fields) → reading m ≡ accepted f → (room ≡ record_size → ⊥) → making m room ≡ refused (plainly 35)
    unfolding making
    is_35 f e n = rw (le-ltb _ _ h, e, ne_eqb _ _ n)

    pub is_made : (f : Fields) → reading m ≡ accepted f → room ≡ record_size → making m room ≡ made
    unfolding making
    is_made f e n = rw (le-ltb _ _ h, e, eq-eqb _ _ n)
