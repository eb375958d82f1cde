-- The paper's number and values for each case of the answer of `read`, and what `read` promises.
-- The order of the numbers is that of the table of refusals.
use Rattle.std.specs.Prelude.{◌≡◌, ℕ, List, Option, Some, None, Result, Ok, Err}
use Rattle.envelope.specs.Fields.{Span, HeaderFields, AddressingFields, absent, present, IntegrityFields, none, crc, application, Fields, Refusal, Answer, accepted, refused, part_of}
use Rattle.envelope.specs.Reading.{reading}
use Rattle.envelope.specs.declared.fields.Part.{Part}
use Rattle.envelope.specs.declared.fields.Header.{Header}
use Rattle.envelope.specs.declared.fields.Addressing.{Addressing}
use Rattle.envelope.specs.declared.fields.Integrity.{Integrity}
use Rattle.envelope.specs.declared.fields.Integrity.TheVariants as held
use Rattle.envelope.specs.declared.fields.Envelope.{Envelope}
use Rattle.envelope.specs.declared.reader.Fault.{Fault}
use Rattle.envelope.specs.declared.reader.Fault.TheVariants.{TooShort, WrongVersion, BadFlags, BadVariableSize, WrongLength, BadAddresses, BadIntegrity}
use Rattle.envelope.specs.declared.reader.Refusal.{Refusal as CodeRefusal}

abbrev pub told_fault : Fault → ℕ
told_fault TooShort = 1
told_fault WrongVersion = 2
told_fault BadFlags = 3
told_fault BadVariableSize = 4
told_fault WrongLength = 5
told_fault BadAddresses = 6
told_fault BadIntegrity = 7

-- what `u8::from` promises of a fault
abbrev pub NumbersFault : Fault → ℕ → Type 0
NumbersFault f r = r ≡ told_fault f

-- whoever passes a refusal on passes on all of it
abbrev pub told_refusal : CodeRefusal → Refusal
told_refusal r = record { number = told_fault r.fault; place = r.place }

abbrev pub told_part : Part → Span
told_part p = record { place = p.place; size = p.size }

abbrev pub told_header : Header → HeaderFields
told_header h =
    record {
      message_type = h.message_type;
      version = h.version;
      flags = h.flags;
      number = h.number;
      time = h.time;
    }

abbrev pub told_addressing : Option Addressing → AddressingFields
told_addressing None = absent
told_addressing (Some a) = present a.ttl a.qos (told_part a.source) (told_part a.destination)

abbrev pub told_integrity : Integrity → IntegrityFields
told_integrity held.None = none
told_integrity (held.Crc n) = crc n
told_integrity (held.Application n) = application n

abbrev pub told_envelope : Envelope → Fields
told_envelope e =
    record {
      header = told_header e.header;
      addressing = told_addressing e.addressing;
      body = told_part e.body;
      integrity = told_integrity e.integrity;
    }

abbrev pub told : Result Envelope CodeRefusal → Answer
told (Ok e) = accepted (told_envelope e)
told (Err r) = refused (told_refusal r)

-- what `Part::slice` promises: the bytes of the part, as far as they reach
abbrev pub Slices : Part → List ℕ → List ℕ → Type 0
Slices p bytes r = r ≡ part_of bytes (told_part p)

-- what `read` promises
abbrev pub Reads : List ℕ → Result Envelope CodeRefusal → Type 0
Reads bytes r = told r ≡ reading bytes

-- what `Envelope::new` promises: the four that were given, and nothing else
abbrev pub Holds : Header → Option Addressing → Part → Integrity → Envelope → Type 0
Holds header addressing body integrity r =
    r ≡ record { header = header; addressing = addressing; body = body; integrity = integrity }
