-- What K7 changes: a file in which no stored length has its top bit means what it meant, and so does every file that passed the check.
-- What a file meant without the mark is kept here beside the statements, and is no part of any promise: the whole stored word is the length, and every good record is live.
-- Proved in proofs/WithoutMarkLaws, and what is said of the count in proofs/CountLaws.
use Rattle.std.specs.Prelude.{ℕ, zero, suc, ◌+◌, ◌*◌, ◌<◌, Bool, false, cond, not, List, ◌≡◌, take, drop}
use Rattle.envelope.specs.Fields.{Span}
use Rattle.envelope.specs.Reading.{reading}
use Rattle.envelope.specs.Refusals.{plainly}
use Rattle.golden.specs.Checking.{CheckAnswer, counted, unless_bad, checking}
use Rattle.golden.specs.Checking as check
use Rattle.golden.specs.Comparing.{CompareOutcome, with_record, comparing}
use Rattle.golden.specs.Comparing as compare
use Rattle.golden.specs.File.{bad_file, count_of, not_there, record_at}
use Rattle.golden.specs.Finding.{NameFields, FindAnswer, decides, finding}
use Rattle.golden.specs.Finding as find
use Rattle.golden.specs.Listing.{EntryAnswer, line, entry_at, counting_retired}
use Rattle.golden.specs.Listing as list
use Rattle.golden.specs.Pairing.{pairs, any_below}
use Rattle.golden.specs.Record.{record_size, head_size, stored_word, retired_mark, all_zero, bad_length, Judged, good, bad, by_reading}
use Rattle.golden.specs.Stepping.{StepAnswer, message, end, step_at, nowhere, stored_message}
use Rattle.golden.specs.Stepping as step

-- ---- a record

abbrev pub message_before : List ℕ → List ℕ
message_before r = take (stored_word r) (drop head_size r)

unfoldable pub judging_before : List ℕ → Judged
judging_before r =
    cond (bad_length (stored_word r)) (bad (plainly 23))
    (cond (not (all_zero (drop (head_size + stored_word r) r))) (bad (plainly 24))
    (by_reading false (reading (message_before r))))

abbrev pub judged_before : List ℕ → ℕ → Judged
judged_before f n = judging_before (record_at f n)

-- ---- check, with 26 as K4 left it

unfoldable pub repeats_before : List ℕ → ℕ → Bool
repeats_before f n = any_below (λ k. pairs (judged_before f n) (judged_before f k)) n

unfoldable pub check_from_before : List ℕ → ℕ → ℕ → CheckAnswer
check_from_before f n zero = counted n
check_from_before f n (suc left) = unless_bad n (repeats_before f n) (judged_before f n) (check_from_before f (n + 1) left)

unfoldable pub checking_before : List ℕ → CheckAnswer
checking_before f = cond (bad_file f) (check.refused 0 (plainly 21)) (check_from_before f 0 (count_of f))

-- ---- find

unfoldable pub find_from_before : List ℕ → NameFields → ℕ → ℕ → FindAnswer
find_from_before f name n zero = find.refused (plainly 27) n
find_from_before f name n (suc left) = decides name n (judged_before f n) (find_from_before f name (n + 1) left)

unfoldable pub finding_before : List ℕ → NameFields → FindAnswer
finding_before f name = cond (bad_file f) (find.refused (plainly 21) 0) (find_from_before f name 0 (count_of f))

-- ---- step, stored message, line and compare

abbrev pub part_before : List ℕ → ℕ → Span
part_before f n = record { place = n * record_size + head_size; size = stored_word (record_at f n) }

unfoldable pub stored_before : List ℕ → ℕ → Span
stored_before f n = cond (bad_file f) nowhere (cond (not_there f n) nowhere (part_before f n))

abbrev pub step_of_before : List ℕ → ℕ → Judged → StepAnswer
step_of_before f n (good retired fields) = message retired (part_before f n)
step_of_before f n (bad r) = step.refused r

unfoldable pub step_before : List ℕ → ℕ → StepAnswer
step_before f n = cond (bad_file f) (step.refused (plainly 21)) (cond (not_there f n) end (step_of_before f n (judged_before f n)))

abbrev pub entry_of_before : List ℕ → ℕ → Judged → EntryAnswer
entry_of_before f n (good retired fields) = line fields.header.message_type fields.header.number (stored_word (record_at f n)) retired
entry_of_before f n (bad r) = list.refused r

unfoldable pub entry_before : List ℕ → ℕ → EntryAnswer
entry_before f n =
    cond (bad_file f) (list.refused (plainly 21))
    (cond (not_there f n) (list.refused (plainly 22))
    (entry_of_before f n (judged_before f n)))

unfoldable pub comparing_before : List ℕ → ℕ → List ℕ → CompareOutcome
comparing_before f n radio =
    cond (bad_file f) (compare.refused (plainly 21))
    (cond (not_there f n) (compare.refused (plainly 22))
    (with_record (message_before (record_at f n)) radio (judged_before f n)))

-- ---- the statements

pub record MeansTheSame (f : List ℕ) : Type 0 where
  pub checks : checking f ≡ checking_before f
  pub finds : (name : NameFields) → finding f name ≡ finding_before f name
  pub steps : (n : ℕ) → step_at f n ≡ step_before f n
  pub stores : (n : ℕ) → stored_message f n ≡ stored_before f n
  pub lines : (n : ℕ) → entry_at f n ≡ entry_before f n
  pub compares : (n : ℕ) (radio : List ℕ) → comparing f n radio ≡ comparing_before f n radio

-- a file in which no stored length has its top bit
abbrev pub UnmarkedMeansTheSame : Type 0
UnmarkedMeansTheSame = (f : List ℕ) → ((k : ℕ) → k < count_of f → stored_word (record_at f k) < retired_mark) → MeansTheSame f

-- a file that passed the check before: it still passes, and means the same
abbrev pub PassedStillPasses : Type 0
PassedStillPasses = (f : List ℕ) (n : ℕ) → checking_before f ≡ counted n → (checking f ≡ counted n) × MeansTheSame f

-- no record of a file without marks is retired
abbrev pub NoneRetired : Type 0
NoneRetired = (f : List ℕ) → bad_file f ≡ false → ((k : ℕ) → k < count_of f → stored_word (record_at f k) < retired_mark) → counting_retired f ≡ list.counted 0
