-- Written then read: the same fields. Read then written: the same bytes. Each statement is a type here; proofs in proofs/RoundTripLaws. RULES 3.
-- What reading hands out is put as a sender would give it: the told fields, and the parts of the bytes that they name.
use Rattle.std.specs.Prelude.{◌≡◌, ℕ, ◌≤◌, List, [], ◌++◌, length, take, drop, Result, Ok}
use Rattle.sum.specs.Detection.{Bytes}
use Rattle.envelope.specs.Fields.{AddressingFields, absent, present, IntegrityFields, none, crc, application, Fields, accepted, part_of}
use Rattle.envelope.specs.Message.{RoutingFields, unaddressed, addressed, Given}
use Rattle.envelope.specs.Reading.{reading}
use Rattle.envelope.specs.Told.{told_envelope, told, Reads}
use Rattle.envelope.specs.Writing.{written, writing, wrote, told_writing, Writes}
use Rattle.envelope.specs.declared.fields.Envelope.{Envelope}
use Rattle.envelope.specs.declared.reader.Refusal.{Refusal}
use Rattle.envelope.specs.declared.writer.WriteFault.{WriteFault}

abbrev pub routing_of : AddressingFields → RoutingFields
routing_of absent = unaddressed
routing_of (present ttl qos source destination) = addressed ttl qos

abbrev pub source_bytes : List ℕ → AddressingFields → List ℕ
source_bytes s absent = []
source_bytes s (present ttl qos source destination) = part_of s source

abbrev pub destination_bytes : List ℕ → AddressingFields → List ℕ
destination_bytes s absent = []
destination_bytes s (present ttl qos source destination) = part_of s destination

abbrev pub application_number : IntegrityFields → ℕ
application_number none = 0
application_number (crc held) = 0
application_number (application held) = held

abbrev pub given_by : List ℕ → Fields → Given
given_by s f =
    record {
      header = f.header;
      routing = routing_of f.addressing;
      source = source_bytes s f.addressing;
      destination = destination_bytes s f.addressing;
      body = part_of s f.body;
      application = application_number f.integrity;
    }

-- bytes that are read as what g gives
pub record ReadsAs (m : List ℕ) (g : Given) : Type 0 where
  pub fields : Fields
  pub accepts : reading m ≡ accepted fields
  pub same : given_by m fields ≡ g

-- a message that writing makes is read as what was given
abbrev pub WrittenThenRead : Type 0
WrittenThenRead = (g : Given) (room : ℕ) (m : List ℕ) → writing g room ≡ written m → ReadsAs m g

-- so is the front of the buffer after `write` has answered a length
abbrev pub WrittenBufferThenRead : Type 0
WrittenBufferThenRead =
    (g : Given) (entry exit : List ℕ) (r : Result ℕ WriteFault) (n : ℕ) → Writes g entry r exit → told_writing r ≡ wrote n → ReadsAs (take n exit) g

-- an answer to bytes that hands out what g gives
pub record HandsOut (r : Result Envelope Refusal) (m : List ℕ) (g : Given) : Type 0 where
  pub fields : Fields
  pub tells : told r ≡ accepted fields
  pub same : given_by m fields ≡ g

-- and any answer of `read` to that front hands out what was given
abbrev pub WrittenThenHandedOut : Type 0
WrittenThenHandedOut =
    (g : Given) (entry exit : List ℕ) (w : Result ℕ WriteFault) (n : ℕ) (r : Result Envelope Refusal)
    → Writes g entry w exit → told_writing w ≡ wrote n → Reads (take n exit) r → HandsOut r (take n exit) g

-- what reading hands out of s, written, is s
abbrev pub ReadThenWritten : Type 0
ReadThenWritten =
    (s : List ℕ) (f : Fields) (room : ℕ) → Bytes s → reading s ≡ accepted f → length s ≤ room → writing (given_by s f) room ≡ written s

-- what `read` handed out, given to `write` with room enough: those bytes, and then what the buffer held
abbrev pub HandedOutThenWritten : Type 0
HandedOutThenWritten =
    (s : List ℕ) (e : Envelope) (entry exit : List ℕ) (w : Result ℕ WriteFault) → Bytes s → Reads s (Ok e) → length s ≤ length entry
    → Writes (given_by s (told_envelope e)) entry w exit → (told_writing w ≡ wrote (length s)) × (exit ≡ s ++ drop (length s) entry)

-- accepted bytes with the same fields, and the same bytes in the parts that these name, are the same
abbrev pub SameFieldsSameBytes : Type 0
SameFieldsSameBytes =
    (s t : List ℕ) (f : Fields) → Bytes s → Bytes t → reading s ≡ accepted f → reading t ≡ accepted f
    → given_by s f ≡ given_by t f → s ≡ t
