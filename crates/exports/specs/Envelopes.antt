-- The envelope's operations as C sees them: each answer as a word or a number, and what the lent arrays then hold.
-- The answers themselves are those of the crate `envelope`.
use Rattle.std.specs.Prelude.{ℕ, cond, List, [], ◌∷◌, ◌≡◌, eqb, length}
use Rattle.envelope.specs.Fields.{Span, HeaderFields, AddressingFields, absent, present, IntegrityFields, none, crc, application, Fields, Answer, accepted, refused}
use Rattle.envelope.specs.Lateness.{LatenessAnswer, no_clock, late, in_time, lateness_of}
use Rattle.envelope.specs.Message.{RoutingFields, unaddressed, addressed, Given}
use Rattle.envelope.specs.Qos.{QosFields, QosAnswer, joined, splitting, joining}
use Rattle.envelope.specs.Qos as qos
use Rattle.envelope.specs.Reading.{reading}
use Rattle.envelope.specs.Rewriting.{RewriteAnswer, rewrote, no_room, no_room_number, rewriting, after_rewriting}
use Rattle.envelope.specs.Rewriting as rewriting
use Rattle.envelope.specs.Sequence.{SequenceAnswer, repeat, next, ahead, behind, distance, sequence_of}
use Rattle.envelope.specs.Writing.{WriteAnswer, wrote, writing, answer_to_writing, after_writing}
use Rattle.envelope.specs.Writing as write
use Rattle.exports.specs.Word.{Slots, slots, word, done, sized, plain_slots, reading_slots}

-- ---- reading: sixteen numbers, in the order of the message

-- 1 for present and 0 for absent, TTL, QoS, and of each end its first place and its size
pub record EndNumbers : Type 0 where
  pub addressed : ℕ
  pub ttl : ℕ
  pub qos : ℕ
  pub source_place : ℕ
  pub source_size : ℕ
  pub destination_place : ℕ
  pub destination_size : ℕ

abbrev pub end_numbers : AddressingFields → EndNumbers
end_numbers absent =
    record {
      addressed = 0;
      ttl = 0;
      qos = 0;
      source_place = 0;
      source_size = 0;
      destination_place = 0;
      destination_size = 0;
    }
end_numbers (present ttl qos source destination) =
    record {
      addressed = 1;
      ttl = ttl;
      qos = qos;
      source_place = source.place;
      source_size = source.size;
      destination_place = destination.place;
      destination_size = destination.size;
    }

abbrev pub kind_number : IntegrityFields → ℕ
kind_number none = 0
kind_number (crc held) = 1
kind_number (application held) = 2

abbrev pub held_number : IntegrityFields → ℕ
held_number none = 0
held_number (crc held) = held
held_number (application held) = held

abbrev pub numbers_with : HeaderFields → EndNumbers → Span → (kind held : ℕ) → List ℕ
numbers_with header ends body kind held =
    header.message_type ∷ header.version ∷ header.flags ∷ header.number ∷ header.time
    ∷ ends.addressed ∷ ends.ttl ∷ ends.qos
    ∷ ends.source_place ∷ ends.source_size ∷ ends.destination_place ∷ ends.destination_size
    ∷ body.place ∷ body.size
    ∷ kind ∷ held ∷ []

abbrev pub field_numbers : Fields → List ℕ
field_numbers f =
    numbers_with f.header (end_numbers f.addressing) f.body (kind_number f.integrity) (held_number f.integrity)

abbrev pub read_slots : Answer → Slots
read_slots (accepted f) = done
read_slots (refused r) = reading_slots r

abbrev pub fields_after : Answer → List ℕ → List ℕ
fields_after (accepted f) entry = field_numbers f
fields_after (refused r) entry = entry

-- what `morlewen_read` promises
abbrev pub ReadsForC : List ℕ → List ℕ → ℕ → List ℕ → Type 0
ReadsForC bytes entry r exit = (r ≡ word (read_slots (reading bytes))) × (exit ≡ fields_after (reading bytes) entry)

-- ---- writing

-- 0 for no variable header; any other number for one of this TTL and QoS
abbrev pub routing_for : (given ttl qos : ℕ) → RoutingFields
routing_for given ttl qos = cond (eqb given 0) unaddressed (addressed ttl qos)

abbrev pub write_slots : WriteAnswer → Slots
write_slots (wrote n) = sized n
write_slots (write.refused n) = plain_slots n

-- the numbers and slices of a call, as what a sender gives
abbrev pub given_for_c : (message_type version flags number time given ttl qos : ℕ) (source destination body : List ℕ) → ℕ → Given
given_for_c message_type version flags number time given ttl qos source destination body integrity =
    record {
      header = record { message_type = message_type; version = version; flags = flags; number = number; time = time };
      routing = routing_for given ttl qos;
      source = source;
      destination = destination;
      body = body;
      application = integrity;
    }

-- what `morlewen_write` promises
abbrev pub WritesForC : Given → List ℕ → ℕ → List ℕ → Type 0
WritesForC g entry r exit =
    (r ≡ word (write_slots (answer_to_writing (writing g (length entry))))) × (exit ≡ after_writing (writing g (length entry)) entry)

abbrev pub rewrite_slots : RewriteAnswer → Slots
rewrite_slots (rewrote n) = sized n
rewrite_slots (rewriting.refused r) = reading_slots r
rewrite_slots no_room = plain_slots no_room_number

-- what `morlewen_rewrite` promises
abbrev pub RewritesForC : List ℕ → List ℕ → ℕ → List ℕ → Type 0
RewritesForC s entry r exit =
    (r ≡ word (rewrite_slots (rewriting s (length entry)))) × (exit ≡ after_rewriting (rewriting s (length entry)) s entry)

-- ---- QoS

abbrev pub part_numbers : QosFields → List ℕ
part_numbers f = f.service_request ∷ f.special_handling ∷ f.network_preference ∷ f.priority ∷ f.class ∷ []

-- what `morlewen_qos_split` promises of the five numbers lent
abbrev pub SplitsForC : ℕ → List ℕ → Type 0
SplitsForC q exit = exit ≡ part_numbers (splitting q)

abbrev pub join_slots : QosAnswer → Slots
join_slots (joined q) = sized q
join_slots (qos.refused n) = plain_slots n

abbrev pub qos_for : (service_request special_handling network_preference priority class : ℕ) → QosFields
qos_for service_request special_handling network_preference priority class =
    record {
      service_request = service_request;
      special_handling = special_handling;
      network_preference = network_preference;
      priority = priority;
      class = class;
    }

-- what `morlewen_qos_join` promises
abbrev pub JoinsForC : QosFields → ℕ → Type 0
JoinsForC f r = r ≡ word (join_slots (joining f))

-- ---- time and sequence

abbrev pub lateness_number : LatenessAnswer → ℕ
lateness_number in_time = 0
lateness_number late = 1
lateness_number no_clock = 2

-- the place of an end that nothing looks at
abbrev pub nowhere : Span
nowhere = record { place = 0; size = 0 }

-- 0 for absent; any other number for present with this TTL, which is all that lateness looks at
abbrev pub addressing_for : (given ttl : ℕ) → AddressingFields
addressing_for given ttl = cond (eqb given 0) absent (present ttl 0 nowhere nowhere)

-- what `morlewen_lateness_from_entry` promises
abbrev pub JudgesLatenessForC : (given ttl entry clock : ℕ) → ℕ → Type 0
JudgesLatenessForC given ttl entry clock r = r ≡ lateness_number (lateness_of (addressing_for given ttl) entry clock)

-- which of the four, and by how many numbers
abbrev pub sequence_slots : SequenceAnswer → Slots
sequence_slots repeat = slots 0 0 0 0
sequence_slots next = slots 0 0 1 1
sequence_slots (ahead n) = slots 0 0 2 n
sequence_slots (behind n) = slots 0 0 3 n

-- what `morlewen_sequence` promises
abbrev pub JudgesSequenceForC : ℕ → ℕ → ℕ → Type 0
JudgesSequenceForC old new r = r ≡ word (sequence_slots (sequence_of (distance old new)))
