-- Where each refusal of reading points: K2's table, line by line, and that every place but that of 1 lies inside the bytes lent. RULES 2.
-- Each statement is a type here, with its proof in proofs/PlaceLaws. `s` is the list of the bytes lent.
use Rattle.std.specs.Prelude.{◌≡◌, ℕ, ◌+◌, ◌-◌, ◌<◌, ◌≤◌, cond, List, length, ◌==◌, ◌≢◌}
use Rattle.envelope.specs.Fields.{Refusal, refused}
use Rattle.envelope.specs.Heading.{variable_size, data_length}
use Rattle.envelope.specs.Layout.{version_place, flags_place, data_length_place, variable_size_place, addresses_place, field_size, largest_message}
use Rattle.envelope.specs.Promise.{Bytes}
use Rattle.envelope.specs.Reading.{reading}

-- ---- the table

pub data PlaceOf (s : List ℕ) (r : Refusal) : Type 0 where
  of_1 : r.number ≡ 1 → r.place ≡ length s → PlaceOf s r
  of_2 : r.number ≡ 2 → r.place ≡ 0 → PlaceOf s r
  of_3 : r.number ≡ 3 → r.place ≡ 4 → PlaceOf s r
  of_4 : r.number ≡ 4 → r.place ≡ 16 → PlaceOf s r
  of_5 : r.number ≡ 5 → r.place ≡ 5 → PlaceOf s r
  of_6 : r.number ≡ 6 → r.place ≡ 21 → PlaceOf s r
  -- 17 + V + D, which is the length lent minus 4
  of_7 : r.number ≡ 7 → r.place ≡ 17 + variable_size s + data_length s → r.place + 4 ≡ length s → PlaceOf s r

abbrev pub PlacesByTable : Type 0
PlacesByTable = (s : List ℕ) (r : Refusal) → reading s ≡ refused r → PlaceOf s r

-- ---- inside the bytes lent; of 1 it is their number

pub record PointsInside (s : List ℕ) (r : Refusal) : Type 0 where
  pub of_short : r.number ≡ 1 → r.place ≡ length s
  pub of_others : (r.number ≢ 1) → r.place < length s

abbrev pub PlacesInside : Type 0
PlacesInside = (s : List ℕ) (r : Refusal) → reading s ≡ refused r → PointsInside s r

-- ---- so number and length tell the place, for whoever keeps these two alone

unfoldable pub place_for : (number size : ℕ) → ℕ
place_for number size =
    cond (number == 1) size
    (cond (number == 2) version_place
    (cond (number == 3) flags_place
    (cond (number == 4) variable_size_place
    (cond (number == 5) data_length_place
    (cond (number == 6) addresses_place
    (size - field_size))))))

abbrev pub PlacesByLength : Type 0
PlacesByLength = (s : List ℕ) (r : Refusal) → reading s ≡ refused r → r.place ≡ place_for r.number (length s)

-- no place is past the longest message
abbrev pub PlacesWithin : Type 0
PlacesWithin = (s : List ℕ) (r : Refusal) → Bytes s → reading s ≡ refused r → r.place ≤ largest_message
