-- Demand 1: a refusal is one of its operation's own and leaves what was lent as it was, and nothing is lost in an answer's word.
-- That each function takes any input is what its proof says: none has a `requires`. That it has one answer is the "only" theorem of its crate.
use Rattle.envelope.specs.Rewriting.{RefusedRewriteWritesNothing}
use Rattle.envelope.specs.Writing.{RefusalWritesNothing}
use Rattle.envelope.proofs.RewriteLaws.{refused_rewrite_writes_nothing}
use Rattle.envelope.proofs.WriteLaws.{refusal_writes_nothing}
use Rattle.golden.specs.Gives.{CountGives, CountRetiredGives, CheckGives, FindGives, StepGives, EntryGives, CompareGives, MakeGives, RetireGives}
use Rattle.golden.specs.Retired.{RefusedRetiringKeepsBuffer}
use Rattle.golden.specs.Theorems.{RefusedComparisonKeepsList, RefusedMakingKeepsBuffer}
use Rattle.golden.proofs.RetiredLaws.{refused_retiring_keeps_buffer}
use Rattle.golden.proofs.GivesLaws as gives
use Rattle.golden.proofs.KeptLaws.{refused_comparison_keeps_list, refused_making_keeps_buffer}
use Rattle.exports.specs.Kept.{ReadKeeps, WriteKeeps, RewriteKeeps, LineKeeps, StepKeeps, CompareKeeps, MakeKeeps, RetireKeeps, UnwrapKeeps, WrapKeeps, AcknowledgeKeeps, TakeKeepsFields, EventKeeps, StartKeeps}
use Rattle.exports.specs.Word.{WordTellsItsSlots}
use Rattle.exports.proofs.FitsLaws.{word_tells_its_slots}
use Rattle.exports.proofs.KeptLaws as kept

-- nothing is lost in an answer's word: the four slots come back
pub a_word_tells_its_slots : WordTellsItsSlots
a_word_tells_its_slots = word_tells_its_slots

-- ---- which refusals each operation of the golden file can give; of frames in Framing

pub count_gives : CountGives
count_gives = gives.count_gives

pub count_retired_gives : CountRetiredGives
count_retired_gives = gives.count_retired_gives

pub check_gives : CheckGives
check_gives = gives.check_gives

pub find_gives : FindGives
find_gives = gives.find_gives

pub step_gives : StepGives
step_gives = gives.step_gives

pub entry_gives : EntryGives
entry_gives = gives.entry_gives

pub compare_gives : CompareGives
compare_gives = gives.compare_gives

pub make_gives : MakeGives
make_gives = gives.make_gives

pub retire_gives : RetireGives
retire_gives = gives.retire_gives

-- ---- a refusal leaves what was lent as it was

-- a refusal of `write` leaves the buffer as it was
pub a_refusal_writes_nothing : RefusalWritesNothing
a_refusal_writes_nothing = refusal_writes_nothing

-- so does one of `rewrite`
pub a_refused_rewrite_writes_nothing : RefusedRewriteWritesNothing
a_refused_rewrite_writes_nothing = refused_rewrite_writes_nothing

-- one of `compare` its list
pub a_refused_comparison_keeps_the_list : RefusedComparisonKeepsList
a_refused_comparison_keeps_the_list = refused_comparison_keeps_list

-- and one of `make` its buffer
pub a_refused_making_keeps_the_buffer : RefusedMakingKeepsBuffer
a_refused_making_keeps_the_buffer = refused_making_keeps_buffer

-- and one of `retire` its buffer
pub a_refused_retiring_keeps_the_buffer : RefusedRetiringKeepsBuffer
a_refused_retiring_keeps_the_buffer = refused_retiring_keeps_buffer

-- ---- the same of each C function that writes into lent storage

pub refused_read_for_c_keeps : ReadKeeps
refused_read_for_c_keeps = kept.read_keeps

pub refused_write_for_c_keeps : WriteKeeps
refused_write_for_c_keeps = kept.write_keeps

pub refused_rewrite_for_c_keeps : RewriteKeeps
refused_rewrite_for_c_keeps = kept.rewrite_keeps

pub refused_line_for_c_keeps : LineKeeps
refused_line_for_c_keeps = kept.line_keeps

pub refused_step_for_c_keeps : StepKeeps
refused_step_for_c_keeps = kept.step_keeps

pub refused_compare_for_c_keeps : CompareKeeps
refused_compare_for_c_keeps = kept.compare_keeps

pub refused_make_for_c_keeps : MakeKeeps
refused_make_for_c_keeps = kept.make_keeps

pub refused_retire_for_c_keeps : RetireKeeps
refused_retire_for_c_keeps = kept.retire_keeps

pub refused_unwrap_for_c_keeps : UnwrapKeeps
refused_unwrap_for_c_keeps = kept.unwrap_keeps

pub refused_wrap_for_c_keeps : WrapKeeps
refused_wrap_for_c_keeps = kept.wrap_keeps

pub refused_acknowledge_for_c_keeps : AcknowledgeKeeps
refused_acknowledge_for_c_keeps = kept.acknowledge_keeps

-- a feed is state and moves on; the sixteen fields stay
pub refused-take_for_c_keeps_the_fields : TakeKeepsFields
refused-take_for_c_keeps_the_fields = kept.take_keeps_fields

-- of a sender all of it, for an event as for the start
pub refused_event_for_c_keeps : EventKeeps
refused_event_for_c_keeps = kept.event_keeps

pub refused_start_for_c_keeps : StartKeeps
refused_start_for_c_keeps = kept.start_keeps
