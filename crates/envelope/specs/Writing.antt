-- Writing: the five refusals in their order, the first that applies is the answer; a refusal writes nothing. RULES 3.
-- `room` is the length of the buffer.
use Rattle.std.specs.Prelude.{◌≡◌, ℕ, ◌≤◌, Bool, false, cond, not, ◌&&◌, ◌||◌, List, [], ◌∷◌, ◌++◌, length, drop, ◌==◌, nat_le, nat_lt, Option, Some, None, Result, Ok, Err}
use Rattle.envelope.specs.Flags.{kind_of, kind_none, kind_crc, bad_flags}
use Rattle.envelope.specs.Layout.{largest_address, largest_body, largest_message}
use Rattle.envelope.specs.Message.{RoutingFields, unaddressed, addressed, Given, message}
use Rattle.envelope.specs.Told.{told_header}
use Rattle.envelope.specs.declared.fields.Header.{Header}
use Rattle.envelope.specs.declared.writer.Given.{Given as CodeGiven}
use Rattle.envelope.specs.declared.writer.Routing.{Routing}
use Rattle.envelope.specs.declared.writer.WriteFault.{WriteFault}
use Rattle.envelope.specs.declared.writer.WriteFault.TheVariants.{BadFlags, BadAddresses, BodyTooLong, StrayIntegrity, NoRoom}

unfoldable pub has_zero : List ℕ → Bool
has_zero [] = false
has_zero (b ∷ bs) = b == 0 || has_zero bs

-- an address over 63 bytes, its closing zero not counted, or with a zero in it
unfoldable pub bad_end : List ℕ → Bool
bad_end a = nat_le largest_address (length a) || has_zero a

-- an address that is not empty where addressing is absent
abbrev pub stray_ends : RoutingFields → List ℕ → List ℕ → Bool
stray_ends unaddressed source destination = not (length source == 0) || not (length destination == 0)
stray_ends (addressed ttl qos) source destination = false

-- rule 12, in its three causes
abbrev pub bad_ends : RoutingFields → List ℕ → List ℕ → Bool
bad_ends routing source destination = bad_end source || (bad_end destination || stray_ends routing source destination)

-- rule 13
abbrev pub body_too_long : List ℕ → Bool
body_too_long body = nat_lt largest_body (length body)

-- rule 14: a number that is not 0 where the kind is none or CRC
unfoldable pub stray_integrity : ℕ → ℕ → Bool
stray_integrity application kind = not (application == 0) && (kind == kind_none || kind == kind_crc)

-- ---- the outcome: the message that is written, or a refusal

pub data WriteOutcome : Type 0 where
  written : List ℕ → WriteOutcome
  refused : ℕ → WriteOutcome

unfoldable pub writing : Given → ℕ → WriteOutcome
writing g room =
    cond (bad_flags g.header.flags) (refused 11)
    (cond (bad_ends g.routing g.source g.destination) (refused 12)
    (cond (body_too_long g.body) (refused 13)
    (cond (stray_integrity g.application (kind_of g.header.flags)) (refused 14)
    (cond (nat_lt room (length (message g))) (refused 15)
    (written (message g))))))

-- the buffer afterwards: the message at the front and the rest untouched, or as it was
abbrev pub after_writing : WriteOutcome → List ℕ → List ℕ
after_writing (written m) entry = m ++ drop (length m) entry
after_writing (refused n) entry = entry

-- ---- the code's answer, told in the paper's numbers

pub data WriteAnswer : Type 0 where
  wrote : ℕ → WriteAnswer
  refused : ℕ → WriteAnswer

abbrev pub answer_to_writing : WriteOutcome → WriteAnswer
answer_to_writing (written m) = wrote (length m)
answer_to_writing (refused n) = refused n

abbrev pub told_write_fault : WriteFault → ℕ
told_write_fault BadFlags = 11
told_write_fault BadAddresses = 12
told_write_fault BodyTooLong = 13
told_write_fault StrayIntegrity = 14
told_write_fault NoRoom = 15

-- what the number of a fault is
abbrev pub NumbersWriteFault : WriteFault → ℕ → Type 0
NumbersWriteFault f r = r ≡ told_write_fault f

abbrev pub told_writing : Result ℕ WriteFault → WriteAnswer
told_writing (Ok n) = wrote n
told_writing (Err f) = refused (told_write_fault f)

abbrev pub told_routing : Option Routing → RoutingFields
told_routing None = unaddressed
told_routing (Some r) = addressed r.ttl r.qos

-- what is lent to `write`, as a sender gives it
abbrev pub given : Header → Option Routing → List ℕ → List ℕ → List ℕ → ℕ → Given
given header routing source destination body application =
    record {
      header = told_header header;
      routing = told_routing routing;
      source = source;
      destination = destination;
      body = body;
      application = application;
    }

abbrev pub told_given : CodeGiven → Given
told_given g = given g.header g.routing g.source.now g.destination.now g.body.now g.application

-- what `write` promises, of its answer and of the whole buffer afterwards
abbrev pub Writes : Given → List ℕ → Result ℕ WriteFault → List ℕ → Type 0
Writes g entry r exit =
    (told_writing r ≡ answer_to_writing (writing g (length entry))) × (exit ≡ after_writing (writing g (length entry)) entry)

-- no message is longer than the longest; proved in proofs/WriteLaws
abbrev pub wrote_length : WriteAnswer → ℕ
wrote_length (wrote n) = n
wrote_length (refused n) = 0

abbrev pub WritesNoLonger : Type 0
WritesNoLonger = (g : Given) (room : ℕ) → wrote_length (answer_to_writing (writing g room)) ≤ largest_message

-- a refusal leaves the buffer as it was; proved in proofs/WriteLaws
abbrev pub RefusalWritesNothing : Type 0
RefusalWritesNothing =
    (g : Given) (entry exit : List ℕ) (r : Result ℕ WriteFault) (n : ℕ) → Writes g entry r exit → told_writing r ≡ refused n → exit ≡ entry
