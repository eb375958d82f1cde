-- A refusal leaves what was lent as it was: for each function of the C interface that writes into lent storage.
-- A feed is state, and is not meant here; what its message is told in is. Each statement is a type here; proofs in proofs/KeptLaws.
use Rattle.std.specs.Prelude.{ℕ, List, ◌≡◌}
use Rattle.envelope.specs.Message.{Given}
use Rattle.exports.specs.Envelopes.{ReadsForC, WritesForC, RewritesForC}
use Rattle.exports.specs.Feeds.{Lent, TakesForC}
use Rattle.exports.specs.Frames.{FrameLent, UnwrapsForC, WrapsForC, AcknowledgesForC}
use Rattle.exports.specs.Goldens.{EntersForC, StepsForC, ComparesForC, MakesForC, RetiresForC}
use Rattle.exports.specs.Senders.{SenderLent, AnswersForC, StartsForC}
use Rattle.exports.specs.Word.{unword}
use Rattle.sender.specs.Queue.{Event}

-- an answer whose number is not 0
abbrev pub IsRefusal : ℕ → Type 0
IsRefusal r = (unword r).number ≡ 0 → ⊥

abbrev pub KeptOnRefusal : {A : Type 0} → (ℕ → A → Type 0) → A → Type 0
KeptOnRefusal {A} Promise entry = (r : ℕ) (exit : A) → Promise r exit → IsRefusal r → exit ≡ entry

abbrev pub ReadKeeps : Type 0
ReadKeeps = (bytes entry : List ℕ) → KeptOnRefusal (ReadsForC bytes entry) entry

abbrev pub WriteKeeps : Type 0
WriteKeeps = (g : Given) (entry : List ℕ) → KeptOnRefusal (WritesForC g entry) entry

abbrev pub RewriteKeeps : Type 0
RewriteKeeps = (bytes entry : List ℕ) → KeptOnRefusal (RewritesForC bytes entry) entry

abbrev pub LineKeeps : Type 0
LineKeeps = (f : List ℕ) (n : ℕ) (entry : List ℕ) → KeptOnRefusal (EntersForC f n entry) entry

abbrev pub StepKeeps : Type 0
StepKeeps = (f : List ℕ) (n : ℕ) (entry : List ℕ) → KeptOnRefusal (StepsForC f n entry) entry

abbrev pub CompareKeeps : Type 0
CompareKeeps = (f : List ℕ) (n : ℕ) (radio entry : List ℕ) → KeptOnRefusal (ComparesForC f n radio entry) entry

abbrev pub MakeKeeps : Type 0
MakeKeeps = (m entry : List ℕ) → KeptOnRefusal (MakesForC m entry) entry

abbrev pub RetireKeeps : Type 0
RetireKeeps = (f : List ℕ) (n : ℕ) (entry : List ℕ) → KeptOnRefusal (RetiresForC f n entry) entry

abbrev pub UnwrapKeeps : Type 0
UnwrapKeeps = (bytes : List ℕ) (entry : FrameLent) → KeptOnRefusal (UnwrapsForC bytes entry) entry

abbrev pub WrapKeeps : Type 0
WrapKeeps = (m : List ℕ) (commid : ℕ) (entry : List ℕ) → KeptOnRefusal (WrapsForC m commid entry) entry

abbrev pub AcknowledgeKeeps : Type 0
AcknowledgeKeeps = (commid acknowledged : ℕ) (entry : List ℕ) → KeptOnRefusal (AcknowledgesForC commid acknowledged entry) entry

-- of a feed the sixteen fields
abbrev pub TakeKeepsFields : Type 0
TakeKeepsFields = (entry : Lent) (piece : List ℕ) (r : ℕ) (exit : Lent) → TakesForC entry piece r exit → IsRefusal r → exit.fields ≡ entry.fields

-- of a sender all of it
abbrev pub EventKeeps : Type 0
EventKeeps = (e : Event) (entry : SenderLent) → KeptOnRefusal (AnswersForC e entry) entry

abbrev pub StartKeeps : Type 0
StartKeeps = (n : ℕ) (entry : List ℕ) → KeptOnRefusal (StartsForC n entry) entry
