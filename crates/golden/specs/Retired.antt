-- What retiring a record does (K7), as types; the proofs stand in proofs/RetiredLaws, and what is said of the count in proofs/CountLaws.
-- `f` is the file, and `marked f n` what stands in the second buffer afterwards.
use Rattle.std.specs.Prelude.{ℕ, ◌+◌, ◌*◌, ◌≤◌, ◌<◌, true, false, List, ◌≡◌, length, Result}
use Rattle.envelope.specs.Fields.{Fields, Refusal}
use Rattle.envelope.specs.Fields as envelope
use Rattle.envelope.specs.Numbers.{byte_at}
use Rattle.envelope.specs.Promise.{Bytes}
use Rattle.envelope.specs.Reading.{reading}
use Rattle.envelope.specs.Refusals.{Refused, plainly, passing_on, place_in}
use Rattle.golden.specs.Checking.{counted, checking}
use Rattle.golden.specs.File.{record_at, judged_at}
use Rattle.golden.specs.Finding.{NameFields, found, finding}
use Rattle.golden.specs.Finding as find
use Rattle.golden.specs.Listing.{counting_retired}
use Rattle.golden.specs.Listing as listing
use Rattle.golden.specs.Record.{record_size, message_room, message_of, good}
use Rattle.golden.specs.Retiring.{top_bit, marked, RetireAnswer, done, refused, retiring, told_retiring, Retires}
use Rattle.golden.specs.declared.refusal.Refusal.{Refusal as GoldenRefusal}

-- the record was live and is retired, with the same message; every other record is judged as it was
-- one byte differs, by its top bit, which was not set
pub record RetiredOne (f : List ℕ) (n : ℕ) (g : List ℕ) : Type 0 where
  pub fields : Fields
  pub was : judged_at f n ≡ good false fields
  pub is : judged_at g n ≡ good true fields
  pub same_message : message_of (record_at g n) ≡ message_of (record_at f n)
  pub others : (k : ℕ) → (k ≡ n → ⊥) → judged_at g k ≡ judged_at f k
  pub size : length g ≡ length f
  pub not_set : byte_at f (n * record_size) < top_bit
  pub set_now : byte_at g (n * record_size) ≡ top_bit + byte_at f (n * record_size)
  pub no_other : (i : ℕ) → (i ≡ n * record_size → ⊥) → byte_at g i ≡ byte_at f i

abbrev pub RetireMarksOne : Type 0
RetireMarksOne = (f : List ℕ) (n room : ℕ) → retiring f n room ≡ done → RetiredOne f n (marked f n)

-- of the function's own answer: the buffer is that file
abbrev pub RetiredIsWritten : Type 0
RetiredIsWritten =
    (f : List ℕ) (n : ℕ) (entry exit : List ℕ) (a : Result (Unit {0}) GoldenRefusal) → Retires f n entry a exit → told_retiring a ≡ done → RetiredOne f n exit

-- a file that passed still passes, with the same count
abbrev pub RetiredStillPasses : Type 0
RetiredStillPasses = (f : List ℕ) (n room m : ℕ) → retiring f n room ≡ done → checking f ≡ counted m → checking (marked f n) ≡ counted m

-- and there is one retired record more
abbrev pub RetireCountsOne : Type 0
RetireCountsOne = (f : List ℕ) (n room m : ℕ) → retiring f n room ≡ done → counting_retired f ≡ listing.counted m → counting_retired (marked f n) ≡ listing.counted (m + 1)

-- in any file find does not give the retired record
abbrev pub RetiredIsNotFound : Type 0
RetiredIsNotFound = (f : List ℕ) (n room : ℕ) (name : NameFields) (opened : ℕ) → retiring f n room ≡ done → finding (marked f n) name ≡ found n opened → ⊥

-- in any file a name that find did not give that record for is answered as before
abbrev pub OthersAreFound : Type 0
OthersAreFound =
    (f : List ℕ) (n room : ℕ) (name : NameFields) → retiring f n room ≡ done → ((opened : ℕ) → finding f name ≡ found n opened → ⊥)
    → finding (marked f n) name ≡ finding f name

-- and in a file that passed the name that it did is found no more
abbrev pub NameIsWithdrawn : Type 0
NameIsWithdrawn =
    (f : List ℕ) (n room m opened : ℕ) (name : NameFields) → retiring f n room ≡ done → checking f ≡ counted m → finding f name ≡ found n opened
    → finding (marked f n) name ≡ find.refused (plainly 27) m

-- to retire it again is 36
abbrev pub RetiredTwice : Type 0
RetiredTwice = (f : List ℕ) (n room again : ℕ) → retiring f n room ≡ done → retiring (marked f n) n again ≡ refused (plainly 36)

-- what is written are bytes, where the file's are
abbrev pub RetiredAreBytes : Type 0
RetiredAreBytes = (f : List ℕ) (n room : ℕ) → retiring f n room ≡ done → Bytes f → Bytes (marked f n)

-- ---- a refusal

-- it leaves the buffer as it was
abbrev pub RefusedRetiringKeepsBuffer : Type 0
RefusedRetiringKeepsBuffer =
    (f : List ℕ) (n : ℕ) (entry exit : List ℕ) (a : Result (Unit {0}) GoldenRefusal) (r : Refused) → Retires f n entry a exit → told_retiring a ≡ refused r → exit ≡ entry

-- its place is no larger than a record's message can be long, and it passes reading's refusal of that message on whole
abbrev pub retire_place : RetireAnswer → ℕ
retire_place done = 0
retire_place (refused r) = place_in r

abbrev pub RetirePointsShort : Type 0
RetirePointsShort = (f : List ℕ) (n room : ℕ) → retire_place (retiring f n room) ≤ message_room

abbrev pub RetirePassesOn : Type 0
RetirePassesOn =
    (f : List ℕ) (n room number : ℕ) (r : Refusal) → retiring f n room ≡ refused (passing_on number r) → reading (message_of (record_at f n)) ≡ envelope.refused r
