-- What find by halving and the order are good for (K9), as types; the proofs stand in proofs/HalvingLaws, HalvedLaws and OrderingLaws.
-- `f` is a file, `i` and `k` number records, and `a` is an answer that keeps its promise.
use Rattle.std.specs.Prelude.{ℕ, suc, ◌≤◌, ◌<◌, Bool, true, false, List, [], ◌⊎◌, ◌≡◌, Result}
use Rattle.envelope.specs.Fields.{Fields, Refusal}
use Rattle.envelope.specs.Fields as envelope
use Rattle.envelope.specs.Reading.{reading}
use Rattle.envelope.specs.Refusals.{Refused, plainly, passing_on, place_in}
use Rattle.golden.specs.Checking.{counted, checking}
use Rattle.golden.specs.File.{most_records, bad_file, count_of, record_at, judged_at}
use Rattle.golden.specs.Finding.{NameFields, FindAnswer, found, refused, name_of, finding, told_name, told_finding}
use Rattle.golden.specs.Halving.{halving, Halves}
use Rattle.golden.specs.Ordering.{OrderAnswer, ascends, breaks, in_place, ordering}
use Rattle.golden.specs.Ordering as order
use Rattle.golden.specs.Pairing.{is_named}
use Rattle.golden.specs.Record.{message_room, message_of, good, bad}
use Rattle.golden.specs.Theorems.{GoodAt, opened_number, found_number, find_place}
use Rattle.golden.specs.declared.finder.Found.{Found}
use Rattle.golden.specs.declared.finder.Name.{Name}
use Rattle.golden.specs.declared.finder.RefusedAfter.{RefusedAfter}

-- a name before another: by type, then by number
abbrev pub Earlier : NameFields → NameFields → Type 0
Earlier a b = (a.message_type < b.message_type) ⊎ ((a.message_type ≡ b.message_type) × (a.number < b.number))

-- the records, retired ones too, stand in strictly ascending order of type, then number
abbrev pub Ascending : List ℕ → Type 0
Ascending f =
    (i k : ℕ) (p q : Bool) (a b : Fields) → i < k → k < count_of f → judged_at f i ≡ good p a → judged_at f k ≡ good q b
    → Earlier (name_of a) (name_of b)

-- the same, asked of neighbours alone
abbrev pub NeighboursAscend : List ℕ → Type 0
NeighboursAscend f =
    (k : ℕ) (p q : Bool) (a b : Fields) → suc k < count_of f → judged_at f k ≡ good p a → judged_at f (suc k) ≡ good q b
    → Earlier (name_of a) (name_of b)

abbrev pub NeighboursSuffice : Type 0
NeighboursSuffice = (f : List ℕ) (n : ℕ) → checking f ≡ counted n → NeighboursAscend f → Ascending f

-- `ascending` answers it of a file that passed
abbrev pub AscendsIsAscending : Type 0
AscendsIsAscending = (f : List ℕ) (n : ℕ) → checking f ≡ counted n → ordering f ≡ ascends → Ascending f

-- and back
abbrev pub AscendingAscends : Type 0
AscendingAscends = (f : List ℕ) (n : ℕ) → checking f ≡ counted n → Ascending f → ordering f ≡ ascends

-- the first n records are good, and each comes after the one before it
pub record InOrderTo (f : List ℕ) (n : ℕ) : Type 0 where
  pub records : (i : ℕ) → i < n → GoodAt f i
  pub placed : (i : ℕ) → i < n → in_place f i ≡ true

-- why `ascending` answers as it does in any file: all records before the deciding one are good and in order
pub data OrderReason (f : List ℕ) : OrderAnswer → Type 0 where
  no_golden_file : bad_file f ≡ true → OrderReason f (order.refused 0 (plainly 21))
  bad_there : (n : ℕ) (r : Refused) → bad_file f ≡ false → n < count_of f → judged_at f n ≡ bad r → InOrderTo f n → OrderReason f (order.refused n r)
  breaks_there : (n : ℕ) → bad_file f ≡ false → n < count_of f → GoodAt f n → in_place f n ≡ false → InOrderTo f n → OrderReason f (breaks n)
  all_in_order : bad_file f ≡ false → InOrderTo f (count_of f) → OrderReason f ascends

abbrev pub OrderGivesItsReason : Type 0
OrderGivesItsReason = (f : List ℕ) → OrderReason f (ordering f)

-- what is no golden file opens no record, and neither does the empty file
abbrev pub NoFileOpensNone : Type 0
NoFileOpensNone = (f : List ℕ) (name : NameFields) → bad_file f ≡ true → halving f name ≡ refused (plainly 21) 0

abbrev pub EmptyOpensNone : Type 0
EmptyOpensNone = (name : NameFields) → halving [] name ≡ refused (plainly 27) 0

-- both find one record, or both answer 27
pub data SameRecord : FindAnswer → FindAnswer → Type 0 where
  both_find : (k opened opened' : ℕ) → SameRecord (found k opened) (found k opened')
  both_miss : (opened opened' : ℕ) → SameRecord (refused (plainly 27) opened) (refused (plainly 27) opened')

abbrev pub HalvingFindsTheSame : Type 0
HalvingFindsTheSame = (f : List ℕ) (name : NameFields) (n : ℕ) → checking f ≡ counted n → Ascending f → SameRecord (halving f name) (finding f name)

-- in any file, what it finds is there, good, live and a true match
pub data TrueMatch (f : List ℕ) (name : NameFields) : FindAnswer → Type 0 where
  match : (k opened : ℕ) → bad_file f ≡ false → k < count_of f → is_named name (judged_at f k) ≡ true → TrueMatch f name (found k opened)
  no_match : (r : Refused) (opened : ℕ) → TrueMatch f name (refused r opened)

abbrev pub HalvingIsTrue : Type 0
HalvingIsTrue = (f : List ℕ) (name : NameFields) → TrueMatch f name (halving f name)

-- at most 8 openings
abbrev pub EightOpenings : Type 0
EightOpenings = (f : List ℕ) (name : NameFields) → opened_number (halving f name) ≤ 8

-- ---- of the function's own answer

abbrev pub HalvedFindsTheSame : Type 0
HalvedFindsTheSame =
    (f : List ℕ) (name : Name) (a : Result Found RefusedAfter) (n : ℕ) → Halves f name a → checking f ≡ counted n → Ascending f
    → SameRecord (told_finding a) (finding f (told_name name))

abbrev pub HalvedIsTrue : Type 0
HalvedIsTrue = (f : List ℕ) (name : Name) (a : Result Found RefusedAfter) → Halves f name a → TrueMatch f (told_name name) (told_finding a)

abbrev pub HalvedOpensEight : Type 0
HalvedOpensEight = (f : List ℕ) (name : Name) (a : Result Found RefusedAfter) → Halves f name a → opened_number (told_finding a) ≤ 8

-- ---- how large an answer can be, and what a refusal passes on

abbrev pub HalvingFindsFew : Type 0
HalvingFindsFew = (f : List ℕ) (name : NameFields) → found_number (halving f name) ≤ most_records

abbrev pub HalvingPointsShort : Type 0
HalvingPointsShort = (f : List ℕ) (name : NameFields) → find_place (halving f name) ≤ message_room

-- the record that `ascending` names, and the place that its refusal tells
abbrev pub order_number : OrderAnswer → ℕ
order_number ascends = 0
order_number (breaks n) = n
order_number (order.refused n r) = n

abbrev pub order_place : OrderAnswer → ℕ
order_place ascends = 0
order_place (breaks n) = 0
order_place (order.refused n r) = place_in r

abbrev pub OrderNamesFew : Type 0
OrderNamesFew = (f : List ℕ) → order_number (ordering f) ≤ most_records

abbrev pub OrderPointsShort : Type 0
OrderPointsShort = (f : List ℕ) → order_place (ordering f) ≤ message_room

abbrev pub OrderPassesOn : Type 0
OrderPassesOn =
    (f : List ℕ) (n number : ℕ) (r : Refusal) → ordering f ≡ order.refused n (passing_on number r)
    → reading (message_of (record_at f n)) ≡ envelope.refused r

-- its answer has no record's number: what reading gives of one of the file's records
pub record RefusedAt (f : List ℕ) (r : Refusal) : Type 0 where
  pub number : ℕ
  pub there : number < count_of f
  pub reads : reading (message_of (record_at f number)) ≡ envelope.refused r

abbrev pub HalvingPassesOn : Type 0
HalvingPassesOn =
    (f : List ℕ) (name : NameFields) (opened number : ℕ) (r : Refusal) → halving f name ≡ refused (passing_on number r) opened → RefusedAt f r
