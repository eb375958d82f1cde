-- Reading: the seven rules in their order, the first that applies is the answer with its place, and the fields where none does. RULES 2.
-- `s` is the list of the bytes lent.
use Rattle.std.specs.Prelude.{ℕ, ◌+◌, Bool, cond, not, List, length, ◌==◌, nat_lt}
use Rattle.envelope.specs.Addresses.{region_of, source_size, destination_size, bad_addresses}
use Rattle.envelope.specs.Fields.{Span, HeaderFields, AddressingFields, absent, present, IntegrityFields, none, crc, application, Fields, Answer, accepted, refused, refused_by}
use Rattle.envelope.specs.Flags.{kind_of, kind_none, kind_crc}
use Rattle.envelope.specs.Heading.{flags_of, variable_size, data_length, field_place, announced, HeadingAnswer, passed, heading}
use Rattle.envelope.specs.Heading as judged
use Rattle.envelope.specs.IntegrityField.{bad_integrity}
use Rattle.envelope.specs.Layout.{type_place, message_version_place, number_place, time_place, ttl_place, qos_place, data_length_place, header_size, addresses_place, least_size}
use Rattle.envelope.specs.Numbers.{byte_at, two_at, four_at}

-- rule 1
abbrev pub too_short : List ℕ → Bool
too_short s = nat_lt (length s) least_size

-- rule 5
abbrev pub wrong_length : List ℕ → Bool
wrong_length s = not (announced s == length s)

-- ---- the fields

unfoldable pub header_of : List ℕ → HeaderFields
header_of s =
    record {
      message_type = two_at s type_place;
      version = byte_at s message_version_place;
      flags = flags_of s;
      number = four_at s number_place;
      time = four_at s time_place;
    }

-- the ends of a region that begins at place 21: the source, and after its zero the destination
abbrev pub source_of : List ℕ → Span
source_of region = record { place = addresses_place; size = source_size region }

abbrev pub destination_of : List ℕ → Span
destination_of region = record { place = addresses_place + source_size region + 1; size = destination_size region }

unfoldable pub addressing_of : List ℕ → ℕ → AddressingFields
addressing_of s v =
    cond (v == 0) absent
    (present (two_at s ttl_place) (two_at s qos_place) (source_of (region_of s v)) (destination_of (region_of s v)))

-- the kind and the number in the field
unfoldable pub integrity_of : ℕ → ℕ → IntegrityFields
integrity_of kind held = cond (kind == kind_none) none (cond (kind == kind_crc) (crc held) (application held))

unfoldable pub fields_of : List ℕ → Fields
fields_of s =
    record {
      header = header_of s;
      addressing = addressing_of s (variable_size s);
      body = record { place = header_size + variable_size s; size = data_length s };
      integrity = integrity_of (kind_of (flags_of s)) (four_at s (field_place s));
    }

-- ---- the answer

-- rules 5 to 7, which look at the whole message
unfoldable pub reading_whole : List ℕ → Answer
reading_whole s =
    cond (wrong_length s) (refused_by 5 data_length_place)
    (cond (bad_addresses s (variable_size s)) (refused_by 6 addresses_place)
    (cond (bad_integrity s (kind_of (flags_of s)) (field_place s)) (refused_by 7 (field_place s))
    (accepted (fields_of s))))

-- what follows the heading, unless the heading is refused
abbrev pub after : HeadingAnswer → Answer → Answer
after (judged.refused r) rest = refused r
after passed rest = rest

unfoldable pub reading : List ℕ → Answer
reading s = cond (too_short s) (refused_by 1 (length s)) (after (heading s) (reading_whole s))
