-- What users of a golden file rely on. Each statement is a type here; the proofs stand in proofs/ (WalkLaws, SteppingLaws, CheckedLaws, FoundLaws, SameLaws, MadeLaws, FewLaws, CountLaws, PointLaws, PassLaws, KeptLaws, DemandLaws).
-- `f` and `g` are files, `n` counts records.
use Rattle.std.specs.Prelude.{ℕ, suc, ◌+◌, ◌*◌, ◌≤◌, ◌<◌, Bool, true, false, List, ◌⊎◌, ◌≡◌, length, Option, Result}
use Rattle.std.specs.Borrow.{Bor}
use Rattle.envelope.specs.AnyWindow.{TwoAndTwoAt, OneDifference}
use Rattle.envelope.specs.Demand3.{DeclaresCrc, Window, SameOutside}
use Rattle.envelope.specs.Fields.{Span, Fields, Refusal, accepted}
use Rattle.envelope.specs.Fields as envelope
use Rattle.envelope.specs.Layout.{largest_message}
use Rattle.envelope.specs.Numbers.{byte_at}
use Rattle.envelope.specs.Promise.{Bytes}
use Rattle.envelope.specs.Reading.{reading}
use Rattle.envelope.specs.Refusals.{Refused, plainly, passing_on, place_in}
use Rattle.envelope.specs.TwoBits.{bits_apart, summed, field_of}
use Rattle.golden.specs.Checking.{CheckAnswer, counted, checking}
use Rattle.golden.specs.Checking as check
use Rattle.golden.specs.Comparing.{comparing, CompareAnswer, same, different, refused, answer_to_comparing, told_comparison, Compares}
use Rattle.golden.specs.File.{most_records, bad_file, count_of, record_at, judged_at}
use Rattle.golden.specs.Finding.{NameFields, has_name, name_of, FindAnswer, found, finding}
use Rattle.golden.specs.Finding as find
use Rattle.golden.specs.Listing.{CountAnswer, counting, counting_retired, EntryAnswer, line, entry_at}
use Rattle.golden.specs.Listing as listing
use Rattle.golden.specs.Making.{MakeAnswer, made, refused, making, told_making, Makes}
use Rattle.golden.specs.Making as make
use Rattle.golden.specs.Pairing.{is_named, pairs}
use Rattle.golden.specs.Record.{record_size, head_size, message_room, message_of, good, bad}
use Rattle.golden.specs.Stepping.{StepAnswer, message, end, step_of, step_at, next_after, told_reached, stored_message}
use Rattle.golden.specs.Stepping as step
use Rattle.golden.specs.Walking.{Begins, Walks}
use Rattle.golden.specs.declared.refusal.Refusal.{Refusal as GoldenRefusal}
use Rattle.golden.specs.declared.stepper.Stored.{Stored}
use Rattle.golden.specs.declared.walker.Walk.{Walk}

-- ---- walk

-- a fresh walk and its steps: `walk k` is the walk before step k, and `answer k` what that step answers
pub record WalkOver (file : Bor (List ℕ)) (walk : ℕ → Walk) (answer : ℕ → Result (Option Stored) GoldenRefusal) : Type 0 where
  pub fresh : Begins file (walk 0)
  pub steps : (k : ℕ) → Walks (walk k) (answer k) (walk (suc k))

-- steps 0 to count - 1 answer records 0 to count - 1 in order, and every later one the end
pub record InOrder (f : List ℕ) (answer : ℕ → Result (Option Stored) GoldenRefusal) : Type 0 where
  pub records : (k : ℕ) → k < count_of f → told_reached (answer k) ≡ step_of f k (judged_at f k)
  pub then_the_end : (k : ℕ) → count_of f ≤ k → told_reached (answer k) ≡ end

abbrev pub FileWalksInOrder : Type 0
FileWalksInOrder =
    (file : Bor (List ℕ)) (walk : ℕ → Walk) (answer : ℕ → Result (Option Stored) GoldenRefusal) → WalkOver file walk answer
    → bad_file file.now ≡ false → InOrder file.now answer

-- on any other file every step answers 21
abbrev pub OtherFileStays : Type 0
OtherFileStays =
    (file : Bor (List ℕ)) (walk : ℕ → Walk) (answer : ℕ → Result (Option Stored) GoldenRefusal) → WalkOver file walk answer
    → bad_file file.now ≡ true → (k : ℕ) → told_reached (answer k) ≡ step.refused (plainly 21)

-- the message that a step answers lies where the stored length says
abbrev pub StepReachesTheStored : Type 0
StepReachesTheStored = (f : List ℕ) (n : ℕ) (retired : Bool) (p : Span) → step_at f n ≡ message retired p → stored_message f n ≡ p

-- ---- check

-- good, live or retired
pub record GoodAt (f : List ℕ) (k : ℕ) : Type 0 where
  pub retired : Bool
  pub fields : Fields
  pub judged : judged_at f k ≡ good retired fields

-- the first n records are good, and no two live ones of them have one name
pub record Sound (f : List ℕ) (n : ℕ) : Type 0 where
  pub records : (k : ℕ) → k < n → GoodAt f k
  pub apart : (i k : ℕ) → i < k → k < n → pairs (judged_at f k) (judged_at f i) ≡ false

-- where check passes, it counts the file, and all its records are sound
pub record Passed (f : List ℕ) (n : ℕ) : Type 0 where
  pub whole : bad_file f ≡ false
  pub count : n ≡ count_of f
  pub sound : Sound f n

abbrev pub CheckedAreSound : Type 0
CheckedAreSound = (f : List ℕ) (n : ℕ) → checking f ≡ counted n → Passed f n

-- and every such file passes
abbrev pub SoundAreChecked : Type 0
SoundAreChecked = (f : List ℕ) (n : ℕ) → Passed f n → checking f ≡ counted n

-- where it refuses a file, it is no golden file; or all before the record that it names are sound, and that record is bad by that refusal, or live with the name of an earlier live one
pub data FirstRefused (f : List ℕ) : ℕ → Refused → Type 0 where
  not_a_file : bad_file f ≡ true → FirstRefused f 0 (plainly 21)
  bad_record : (n : ℕ) (r : Refused) → bad_file f ≡ false → n < count_of f → judged_at f n ≡ bad r → Sound f n → FirstRefused f n r
  repeated : (i n : ℕ) → bad_file f ≡ false → n < count_of f → GoodAt f n → i < n → pairs (judged_at f n) (judged_at f i) ≡ true → Sound f n
      → FirstRefused f n (plainly 26)

abbrev pub CheckNamesTheFirst : Type 0
CheckNamesTheFirst = (f : List ℕ) (n : ℕ) (r : Refused) → checking f ≡ check.refused n r → FirstRefused f n r

-- and every such file is refused so
abbrev pub FirstRefusedIsNamed : Type 0
FirstRefusedIsNamed = (f : List ℕ) (n : ℕ) (r : Refused) → FirstRefused f n r → checking f ≡ check.refused n r

-- ---- K4, in plain words: two live records, of one type and one number

pub record OneName (f : List ℕ) (i k : ℕ) : Type 0 where
  pub first : Fields
  pub second : Fields
  pub first_lives : judged_at f i ≡ good false first
  pub second_lives : judged_at f k ≡ good false second
  pub same_type : first.header.message_type ≡ second.header.message_type
  pub same_number : first.header.number ≡ second.header.number

-- in a file that passed there are no two
abbrev pub NoTwoOfOneName : Type 0
NoTwoOfOneName = (f : List ℕ) (n i k : ℕ) → checking f ≡ counted n → i < k → k < n → OneName f i k → ⊥

-- where 26 is answered, the record that it names is the later of two, and all before it are sound
pub record Later (f : List ℕ) (k : ℕ) : Type 0 where
  pub earlier : ℕ
  pub before : earlier < k
  pub there : k < count_of f
  pub one_name : OneName f earlier k
  pub sound : Sound f k

abbrev pub RefusesTheLater : Type 0
RefusesTheLater = (f : List ℕ) (k : ℕ) → checking f ≡ check.refused k (plainly 26) → Later f k

-- and so it is of every such file
abbrev pub LaterIsRefused : Type 0
LaterIsRefused = (f : List ℕ) (k : ℕ) → bad_file f ≡ false → Later f k → checking f ≡ check.refused k (plainly 26)

-- any two of one name are refused: where the records up to the later one are good, 26 names it or one before it
pub record NamedBy (f : List ℕ) (k : ℕ) : Type 0 where
  pub later : ℕ
  pub not_past : later ≤ k
  pub refuses : checking f ≡ check.refused later (plainly 26)

abbrev pub AnyTwoAreRefused : Type 0
AnyTwoAreRefused =
    (f : List ℕ) (i k : ℕ) → bad_file f ≡ false → i < k → k < count_of f → ((m : ℕ) → m < k + 1 → GoodAt f m) → OneName f i k → NamedBy f k

-- find of that name gives the earlier one
abbrev pub EarlierIsFound : Type 0
EarlierIsFound =
    (f : List ℕ) (k : ℕ) → bad_file f ≡ false → (w : Later f k) → finding f (name_of w.one_name.second) ≡ found w.earlier (w.earlier + 1)

-- some records taken out: g is a golden file, and each of its records is one of f, in the order of f
pub record TakenOut (f g : List ℕ) : Type 0 where
  pub whole : bad_file g ≡ false
  pub from : ℕ → ℕ
  pub there : (k : ℕ) → k < count_of g → from k < count_of f
  pub in_order : (i k : ℕ) → i < k → k < count_of g → from i < from k
  pub records : (k : ℕ) → k < count_of g → record_at g k ≡ record_at f (from k)

-- a file that passes still passes with records taken out
abbrev pub FewerStillPass : Type 0
FewerStillPass = (f g : List ℕ) (n : ℕ) → checking f ≡ counted n → TakenOut f g → checking g ≡ counted (count_of g)

-- ---- find

-- record i is good, and is retired or has another name
pub record NotNamed (f : List ℕ) (name : NameFields) (i : ℕ) : Type 0 where
  pub retired : Bool
  pub fields : Fields
  pub judged : judged_at f i ≡ good retired fields
  pub other : is_named name (good retired fields) ≡ false

-- the first live record of the name, or 27 where none of n has it
pub data FirstNamed (f : List ℕ) (name : NameFields) (n : ℕ) : FindAnswer → Type 0 where
  first : (k : ℕ) (fields : Fields) → k < n → judged_at f k ≡ good false fields → has_name name fields ≡ true
      → ((i : ℕ) → i < k → NotNamed f name i) → FirstNamed f name n (found k (k + 1))
  none : ((i : ℕ) → i < n → NotNamed f name i) → FirstNamed f name n (find.refused (plainly 27) n)

abbrev pub FindsTheFirst : Type 0
FindsTheFirst = (f : List ℕ) (name : NameFields) (n : ℕ) → checking f ≡ counted n → FirstNamed f name n (finding f name)

-- and in a file that passed it is the only live one of its name
pub data TheOne (f : List ℕ) (name : NameFields) (n : ℕ) : FindAnswer → Type 0 where
  one : (k : ℕ) → k < n → is_named name (judged_at f k) ≡ true → ((i : ℕ) → i < n → is_named name (judged_at f i) ≡ true → i ≡ k)
      → TheOne f name n (found k (k + 1))
  none : ((i : ℕ) → i < n → is_named name (judged_at f i) ≡ false) → TheOne f name n (find.refused (plainly 27) n)

abbrev pub FindsTheOne : Type 0
FindsTheOne = (f : List ℕ) (name : NameFields) (n : ℕ) → checking f ≡ counted n → TheOne f name n (finding f name)

-- why find answers as it does in any file: all records before the deciding one are good, and retired or of other names
pub data FindReason (f : List ℕ) (name : NameFields) : FindAnswer → Type 0 where
  no_file : bad_file f ≡ true → FindReason f name (find.refused (plainly 21) 0)
  first_bad : (k : ℕ) (r : Refused) → bad_file f ≡ false → k < count_of f → judged_at f k ≡ bad r
      → ((i : ℕ) → i < k → NotNamed f name i) → FindReason f name (find.refused r (k + 1))
  first_named_lem : (k : ℕ) (fields : Fields) → bad_file f ≡ false → k < count_of f → judged_at f k ≡ good false fields → has_name name fields ≡ true
      → ((i : ℕ) → i < k → NotNamed f name i) → FindReason f name (found k (k + 1))
  none_named : bad_file f ≡ false → ((i : ℕ) → i < count_of f → NotNamed f name i) → FindReason f name (find.refused (plainly 27) (count_of f))

abbrev pub FindGivesItsReason : Type 0
FindGivesItsReason = (f : List ℕ) (name : NameFields) → FindReason f name (finding f name)

-- and each reason settles the answer: a record is found exactly when it is the first live one of the name, and 27 is answered exactly when there is none
abbrev pub ReasonSettlesFind : Type 0
ReasonSettlesFind = (f : List ℕ) (name : NameFields) (a : FindAnswer) → FindReason f name a → finding f name ≡ a

-- ---- compare

-- where it answers same, the record's message and the radio's have the same bytes
abbrev pub SameIsEqual : Type 0
SameIsEqual = (f : List ℕ) (n : ℕ) (radio : List ℕ) → answer_to_comparing (comparing f n radio) ≡ same → message_of (record_at f n) ≡ radio

-- ---- make

-- where `make` of a message answers made, the buffer is a file of one record: it checks, compares same with the message, and is found by its name
pub record MadeGood (m exit : List ℕ) : Type 0 where
  pub fields : Fields
  pub accepts : reading m ≡ accepted fields
  pub checks : checking exit ≡ counted 1
  pub compares : answer_to_comparing (comparing exit 0 m) ≡ same
  pub finds : finding exit (name_of fields) ≡ found 0 1

abbrev pub MadeIsGood : Type 0
MadeIsGood = (m entry exit : List ℕ) (a : Result (Unit {0}) GoldenRefusal) → Makes m entry a exit → told_making a ≡ made → MadeGood m exit

-- ---- 25 never carries reading number 1: 23 comes first

abbrev pub NeverTooShort : Type 0
NeverTooShort = (f : List ℕ) (n : ℕ) (r : Refusal) → n < count_of f → judged_at f n ≡ bad (passing_on 25 r) → r.number ≡ 1 → ⊥

-- ---- how large an answer can be: no more records than a file may hold, no more places than the longest message has

-- the count, or the refused record's number
abbrev pub checked_number : CheckAnswer → ℕ
checked_number (counted n) = n
checked_number (check.refused n r) = n

abbrev pub CheckNamesFew : Type 0
CheckNamesFew = (f : List ℕ) → checked_number (checking f) ≤ most_records

abbrev pub counted_number : CountAnswer → ℕ
counted_number (listing.counted n) = n
counted_number (listing.refused r) = 0

abbrev pub CountIsFew : Type 0
CountIsFew = (f : List ℕ) → counted_number (counting f) ≤ most_records

abbrev pub RetiredAreFew : Type 0
RetiredAreFew = (f : List ℕ) → counted_number (counting_retired f) ≤ most_records

-- the number of records opened, and that of the record found
abbrev pub opened_number : FindAnswer → ℕ
opened_number (found n opened) = opened
opened_number (find.refused r opened) = opened

abbrev pub found_number : FindAnswer → ℕ
found_number (found n opened) = n
found_number (find.refused r opened) = 0

abbrev pub FindOpensFew : Type 0
FindOpensFew = (f : List ℕ) (name : NameFields) → (opened_number (finding f name) ≤ most_records) × (found_number (finding f name) ≤ most_records)

abbrev pub reached_size : StepAnswer → ℕ
reached_size (step.message retired part) = part.size
reached_size (step.refused r) = 0
reached_size end = 0

abbrev pub StepReachesShort : Type 0
StepReachesShort = (f : List ℕ) (n : ℕ) → reached_size (step_at f n) ≤ message_room

abbrev pub StepGoesOnByOne : Type 0
StepGoesOnByOne = (f : List ℕ) (n : ℕ) → (n ≤ next_after f n) × (next_after f n ≤ n + 1)

abbrev pub difference_total : CompareAnswer → ℕ
difference_total same = 0
difference_total (different n) = n
difference_total (refused r) = 0

abbrev pub CompareTotalsFew : Type 0
CompareTotalsFew = (f : List ℕ) (n : ℕ) (radio : List ℕ) → Bytes radio → difference_total (answer_to_comparing (comparing f n radio)) ≤ largest_message

-- ---- the place that a refusal passes on is no larger than a message is long: a record's, or the longest there is

abbrev pub count_place : CountAnswer → ℕ
count_place (listing.counted n) = 0
count_place (listing.refused r) = place_in r

abbrev pub CountPointsNowhere : Type 0
CountPointsNowhere = (f : List ℕ) → (count_place (counting f) ≡ 0) × (count_place (counting_retired f) ≡ 0)

abbrev pub check_place : CheckAnswer → ℕ
check_place (counted n) = 0
check_place (check.refused n r) = place_in r

abbrev pub CheckPointsShort : Type 0
CheckPointsShort = (f : List ℕ) → check_place (checking f) ≤ message_room

abbrev pub find_place : FindAnswer → ℕ
find_place (found n opened) = 0
find_place (find.refused r opened) = place_in r

abbrev pub FindPointsShort : Type 0
FindPointsShort = (f : List ℕ) (name : NameFields) → find_place (finding f name) ≤ message_room

abbrev pub step_place : StepAnswer → ℕ
step_place (step.message retired part) = 0
step_place (step.refused r) = place_in r
step_place end = 0

abbrev pub StepPointsShort : Type 0
StepPointsShort = (f : List ℕ) (n : ℕ) → step_place (step_at f n) ≤ message_room

abbrev pub entry_place : EntryAnswer → ℕ
entry_place (line message_type number size retired) = 0
entry_place (listing.refused r) = place_in r

abbrev pub EntryPointsShort : Type 0
EntryPointsShort = (f : List ℕ) (n : ℕ) → entry_place (entry_at f n) ≤ message_room

abbrev pub compare_place : CompareAnswer → ℕ
compare_place same = 0
compare_place (different n) = 0
compare_place (refused r) = place_in r

abbrev pub ComparePointsWithin : Type 0
ComparePointsWithin = (f : List ℕ) (n : ℕ) (radio : List ℕ) → Bytes radio → compare_place (answer_to_comparing (comparing f n radio)) ≤ largest_message

abbrev pub make_place : MakeAnswer → ℕ
make_place made = 0
make_place (make.refused r) = place_in r

abbrev pub MakePointsShort : Type 0
MakePointsShort = (m : List ℕ) (room : ℕ) → make_place (making m room) ≤ message_room

-- ---- a refusal of reading is passed on whole: it is the one that reading gives of that message, its place too

abbrev pub CheckPassesOn : Type 0
CheckPassesOn =
    (f : List ℕ) (n number : ℕ) (r : Refusal) → checking f ≡ check.refused n (passing_on number r) → reading (message_of (record_at f n)) ≡ envelope.refused r

abbrev pub FindPassesOn : Type 0
FindPassesOn =
    (f : List ℕ) (name : NameFields) (n number : ℕ) (r : Refusal) → finding f name ≡ find.refused (passing_on number r) (n + 1)
    → reading (message_of (record_at f n)) ≡ envelope.refused r

abbrev pub StepPassesOn : Type 0
StepPassesOn = (f : List ℕ) (n number : ℕ) (r : Refusal) → step_at f n ≡ step.refused (passing_on number r) → reading (message_of (record_at f n)) ≡ envelope.refused r

abbrev pub EntryPassesOn : Type 0
EntryPassesOn = (f : List ℕ) (n number : ℕ) (r : Refusal) → entry_at f n ≡ listing.refused (passing_on number r) → reading (message_of (record_at f n)) ≡ envelope.refused r

-- by 25 of the record's message, by 31 of the radio's
abbrev pub ComparePassesOn : Type 0
ComparePassesOn =
    (f : List ℕ) (n : ℕ) (radio : List ℕ) (r : Refusal)
    → (answer_to_comparing (comparing f n radio) ≡ refused (passing_on 25 r) → reading (message_of (record_at f n)) ≡ envelope.refused r)
    × (answer_to_comparing (comparing f n radio) ≡ refused (passing_on 31 r) → reading radio ≡ envelope.refused r)

abbrev pub MakePassesOn : Type 0
MakePassesOn = (m : List ℕ) (room number : ℕ) (r : Refusal) → making m room ≡ make.refused (passing_on number r) → reading m ≡ envelope.refused r

-- ---- a refusal leaves what was lent as it was

abbrev pub RefusedComparisonKeepsList : Type 0
RefusedComparisonKeepsList =
    (f : List ℕ) (n : ℕ) (radio entry exit : List ℕ) (a : Result ℕ GoldenRefusal) (r : Refused)
    → Compares f n radio entry a exit → told_comparison a ≡ refused r → exit ≡ entry

abbrev pub RefusedMakingKeepsBuffer : Type 0
RefusedMakingKeepsBuffer =
    (m entry exit : List ℕ) (a : Result (Unit {0}) GoldenRefusal) (r : Refused) → Makes m entry a exit → told_making a ≡ refused r → exit ≡ entry

-- ---- demand 3 for golden files: a change inside four neighbouring bytes of one record's message, before its integrity field or being it

abbrev pub GoldenDemand3 : Type 0
GoldenDemand3 =
    (f g : List ℕ) (n m r k : ℕ) → Bytes f → Bytes g → checking f ≡ counted n → checking g ≡ counted m → r < n
    → DeclaresCrc (message_of (record_at f r)) → DeclaresCrc (message_of (record_at g r)) → Window k (length (message_of (record_at f r)))
    → length f ≡ length g → SameOutside (r * record_size + head_size + k) f g → f ≡ g

-- ---- K11 for golden files: one or two bits of one record's message, before its integrity field

-- the same at every place outside the message of record r
abbrev pub SameButMessage : ℕ → List ℕ → List ℕ → Type 0
SameButMessage r f g =
    ((i : ℕ) → i < r * record_size + head_size → byte_at f i ≡ byte_at g i)
    × ((i : ℕ) → r * record_size + head_size + length (message_of (record_at f r)) ≤ i → byte_at f i ≡ byte_at g i)

abbrev pub GoldenBitsBeforeField : ℕ → Type 0
GoldenBitsBeforeField bits =
    (f g : List ℕ) (n m r : ℕ) → Bytes f → Bytes g → checking f ≡ counted n → checking g ≡ counted m → r < n
    → DeclaresCrc (message_of (record_at f r)) → DeclaresCrc (message_of (record_at g r)) → length f ≡ length g → SameButMessage r f g
    → field_of (message_of (record_at f r)) ≡ field_of (message_of (record_at g r))
    → 1 ≤ bits_apart (summed (message_of (record_at f r))) (summed (message_of (record_at g r)))
    → bits_apart (summed (message_of (record_at f r))) (summed (message_of (record_at g r))) ≤ bits → ⊥

abbrev pub GoldenTwoBits : Type 0
GoldenTwoBits = GoldenBitsBeforeField 2

-- beyond it: up to so many bits anywhere in that message
abbrev pub GoldenBitsAnywhere : ℕ → Type 0
GoldenBitsAnywhere bits =
    (f g : List ℕ) (n m r : ℕ) → Bytes f → Bytes g → checking f ≡ counted n → checking g ≡ counted m → r < n
    → DeclaresCrc (message_of (record_at f r)) → DeclaresCrc (message_of (record_at g r)) → length f ≡ length g → SameButMessage r f g
    → bits_apart (message_of (record_at f r)) (message_of (record_at g r)) ≤ bits → f ≡ g

abbrev pub GoldenThreeBitsAnywhere : Type 0
GoldenThreeBitsAnywhere = GoldenBitsAnywhere 3

-- beyond demand 3: four neighbouring bytes anywhere behind the stored length of one record, the zeros after its message included,
-- but for the windows left out
abbrev pub GoldenWindowsBut : (ℕ → ℕ → Type 0) → Type 0
GoldenWindowsBut LeftOut =
    (f g : List ℕ) (n m r k : ℕ) → Bytes f → Bytes g → checking f ≡ counted n → checking g ≡ counted m → r < n
    → DeclaresCrc (message_of (record_at f r)) → DeclaresCrc (message_of (record_at g r)) → k + 4 ≤ message_room
    → (LeftOut k (length (message_of (record_at f r))) → ⊥)
    → length f ≡ length g → SameOutside (r * record_size + head_size + k) f g → f ≡ g

abbrev pub GoldenAnyWindow : Type 0
GoldenAnyWindow = GoldenWindowsBut TwoAndTwoAt

-- the window left out: equal, or one difference
abbrev pub GoldenMiddleWindow : Type 0
GoldenMiddleWindow =
    (f g : List ℕ) (n m r k : ℕ) → Bytes f → Bytes g → checking f ≡ counted n → checking g ≡ counted m → r < n
    → DeclaresCrc (message_of (record_at f r)) → DeclaresCrc (message_of (record_at g r))
    → TwoAndTwoAt k (length (message_of (record_at f r)))
    → length f ≡ length g → SameOutside (r * record_size + head_size + k) f g → (f ≡ g) ⊎ OneDifference (r * record_size + head_size + k) f g
