-- Demand 2: exactly the well-formed messages and exactly their fields; written then read, and read then written.
-- That `read` accepts just what the definition accepts is its promise; these are the round trips over it, and what golden files keep.
use Rattle.sum.specs.Vectors.{Vectors}
use Rattle.sum.proofs.Computed.{vectors}
use Rattle.envelope.specs.Qos.{JoinsWhatWasSplit, SplitsWhatWasJoined}
use Rattle.envelope.specs.RoundTrips.{WrittenThenRead, WrittenBufferThenRead, WrittenThenHandedOut, ReadThenWritten, HandedOutThenWritten, SameFieldsSameBytes}
use Rattle.envelope.proofs.QosLaws.{joins_what_was_split, splits_what_was_joined}
use Rattle.envelope.proofs.RoundTripLaws as trips
use Rattle.golden.specs.Beginning.{NeverABeginning, Never32, CompareIsUnchanged, CompareNeverGives32}
use Rattle.golden.specs.Theorems.{FileWalksInOrder, OtherFileStays, StepReachesTheStored, CheckedAreSound, SoundAreChecked, CheckNamesTheFirst, FirstRefusedIsNamed, NoTwoOfOneName, RefusesTheLater, LaterIsRefused, AnyTwoAreRefused, EarlierIsFound, FewerStillPass, FindsTheFirst, FindsTheOne, FindGivesItsReason, ReasonSettlesFind, SameIsEqual, MadeIsGood, NeverTooShort}
use Rattle.golden.specs.Without26.{Only26IsNew, PassedWithout26}
use Rattle.golden.proofs.BeginningLaws as beginning
use Rattle.golden.proofs.CheckedLaws as checked
use Rattle.golden.proofs.FoundLaws as found
use Rattle.golden.proofs.MadeLaws as made
use Rattle.golden.proofs.SameLaws as same
use Rattle.golden.proofs.SteppingLaws as step
use Rattle.golden.proofs.WalkLaws as walk
use Rattle.golden.proofs.Without26Laws as without26

-- the sums of the documents: no bytes, the digits 1 to 9 (case n), and the digits with their complemented sum
pub the_documents_vectors : Vectors
the_documents_vectors = vectors

pub written_then_read : WrittenThenRead
written_then_read = trips.written_then_read

pub written_buffer_then_read : WrittenBufferThenRead
written_buffer_then_read = trips.written_buffer_then_read

pub read_then_written : ReadThenWritten
read_then_written = trips.read_then_written

-- both, of any answers of the two functions
pub written_then_handed_out : WrittenThenHandedOut
written_then_handed_out = trips.written_then_handed_out

pub handed_out_then_written : HandedOutThenWritten
handed_out_then_written = trips.handed_out_then_written

-- nothing of a message is lost in its fields and parts
pub same_fields_same_bytes : SameFieldsSameBytes
same_fields_same_bytes = trips.same_fields_same_bytes

pub qos_joins_what_was_split : JoinsWhatWasSplit
qos_joins_what_was_split = joins_what_was_split

pub qos_splits_what_was_joined : SplitsWhatWasJoined
qos_splits_what_was_joined = splits_what_was_joined

-- ---- golden files

pub file_walks_in_order : FileWalksInOrder
file_walks_in_order = walk.walks_in_order

pub other_file_stays : OtherFileStays
other_file_stays = walk.other_file_stays

pub step_reaches_the_stored : StepReachesTheStored
step_reaches_the_stored = step.step_reaches_the_stored

pub checked_are_sound : CheckedAreSound
checked_are_sound = checked.checked_are_sound

pub sound_are_checked : SoundAreChecked
sound_are_checked = checked.sound_are_checked

pub check_names_the_first : CheckNamesTheFirst
check_names_the_first = checked.check_names_the_first

pub first_refused_is_named : FirstRefusedIsNamed
first_refused_is_named = checked.first_refused_is_named

pub finds_the_first : FindsTheFirst
finds_the_first = checked.finds_the_first

-- ---- K4: no two live records of one name

pub no_two_of_one_name : NoTwoOfOneName
no_two_of_one_name = checked.no_two_of_one_name

pub refuses_the_later : RefusesTheLater
refuses_the_later = checked.refuses_the_later

pub later_is_refused : LaterIsRefused
later_is_refused = checked.later_is_refused

pub any_two_are_refused : AnyTwoAreRefused
any_two_are_refused = checked.any_two_are_refused

pub earlier_is_found : EarlierIsFound
earlier_is_found = checked.earlier_is_found

pub fewer_still_pass : FewerStillPass
fewer_still_pass = checked.fewer_still_pass

pub finds_the_one : FindsTheOne
finds_the_one = checked.finds_the_one

pub only_26_is_new : Only26IsNew
only_26_is_new = without26.only_26_is_new

pub passed_without_26 : PassedWithout26
passed_without_26 = without26.passed_without_26

-- ---- find, in any file

pub find_gives_its_reason : FindGivesItsReason
find_gives_its_reason = found.find_gives_its_reason

pub reason_settles_find : ReasonSettlesFind
reason_settles_find = found.reason_settles_find

pub same_is_equal : SameIsEqual
same_is_equal = same.same_is_equal

pub made_is_good : MadeIsGood
made_is_good = made.made_is_good

pub never_too_short : NeverTooShort
never_too_short = made.never_too_short

-- why compare has no refusal 32, and that nothing else changed without it
pub never_a_beginning : NeverABeginning
never_a_beginning = beginning.never_a_beginning

pub never_32 : Never32
never_32 = beginning.never_32

pub compare_is_unchanged : CompareIsUnchanged
compare_is_unchanged = beginning.compare_is_unchanged

pub compare_never_gives_32 : CompareNeverGives32
compare_never_gives_32 = beginning.compare_never_gives_32
