-- Meanings of the private helpers' answers. Nothing that a public promise says is defined here.
-- `unless b x` is nothing where the rule b is broken, and else x.
use Rattle.std.specs.Prelude.{◌≡◌, ℕ, ◌+◌, ◌<◌, ◌≤◌, Bool, true, false, List, ◌++◌, length, take, drop, Option, Some, None, Result, Ok, Err, ok_or}
use Rattle.envelope.specs.Addresses.{first_zero, source_size, destination_size}
use Rattle.envelope.specs.Fields.{AddressingFields, IntegrityFields, Refusal}
use Rattle.envelope.specs.Heading.{HeadingAnswer, passed, refused}
use Rattle.envelope.specs.Layout.{header_size, routing_size, largest_address, largest_body, field_size}
use Rattle.envelope.specs.Message.{RoutingFields, unaddressed, addressed, Given}
use Rattle.envelope.specs.Told.{told_refusal, told_addressing, told_integrity}
use Rattle.envelope.specs.declared.addresses.Sizes.{Sizes}
use Rattle.envelope.specs.declared.fields.Addressing.{Addressing}
use Rattle.envelope.specs.declared.fields.Integrity.{Integrity}
use Rattle.envelope.specs.declared.reader.Refusal.{Refusal as CodeRefusal}

abbrev pub unless : {A : Type 0} → Bool → A → Option A
unless true x = None
unless false x = Some x

-- the refusal r where the rule b is broken, and else x
abbrev pub unless_refused : {A R : Type 0} → Bool → R → A → Result A R
unless_refused b r x = ok_or (unless b x) r

-- an address of n bytes, which the first zero closes
abbrev pub Closes : List ℕ → ℕ → Type 0
Closes s n = (n ≡ first_zero s) × (n < largest_address) × (n < length s)

abbrev pub sizes : List ℕ → Sizes
sizes region = record { source = source_size region; destination = destination_size region }

abbrev pub told_found_addressing : Result (Option Addressing) CodeRefusal → Result AddressingFields Refusal
told_found_addressing (Ok a) = Ok (told_addressing a)
told_found_addressing (Err r) = Err (told_refusal r)

abbrev pub told_found_integrity : Result Integrity CodeRefusal → Result IntegrityFields Refusal
told_found_integrity (Ok i) = Ok (told_integrity i)
told_found_integrity (Err r) = Err (told_refusal r)

abbrev pub told_heading : Result (Unit {0}) CodeRefusal → HeadingAnswer
told_heading (Ok u) = passed
told_heading (Err r) = refused (told_refusal r)

-- ---- of the writer

-- a list with a part put in from a place
unfoldable pub pasted : List ℕ → ℕ → List ℕ → List ℕ
pasted d place p = take place d ++ p ++ drop (place + length p) d

-- the size of the variable header, for ends of these sizes
abbrev pub variable_length : RoutingFields → ℕ → ℕ → ℕ
variable_length unaddressed source destination = 0
variable_length (addressed ttl qos) source destination = routing_size + (source + 1 + (destination + 1))

abbrev pub variable_of_length : Given → ℕ
variable_of_length g = variable_length g.routing (length g.source) (length g.destination)

-- what may be written: short enough, and within the room
pub record Allowed (g : Given) (room : ℕ) : Type 0 where
  pub source_short : length g.source < largest_address
  pub destination_short : length g.destination < largest_address
  pub body_short : length g.body ≤ largest_body
  pub fits : header_size + variable_of_length g + length g.body + field_size ≤ room
