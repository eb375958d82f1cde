-- The starred cases, computed from the definitions; for e and g the byte is a variable, and no rule looks at it.
-- The CRC of the message of kind CRC is computed by the crate `sum`.
use mathlib.Core.Path.{◌≡◌, refl, ap}
use Prim.Native.Nat.{ℕ}
use lib.ListN.{take}
use Rattle.sum.specs.Crc.{crc32}
use Rattle.sum.proofs.Computed.{crc32_computes}
use Rattle.envelope.specs.Addresses.{ends_in_its_only_zero, is_address, splits_at, splits_up_to, bad_addresses, first_zero, destination_size}
use Rattle.envelope.specs.Fields.{AddressingFields, absent, present, Answer, accepted, refused}
use Rattle.envelope.specs.Flags.{bad_flags}
use Rattle.envelope.specs.Heading.{announced, bad_variable_size, heading}
use Rattle.envelope.specs.IntegrityField.{bad_integrity}
use Rattle.envelope.specs.Numbers.{two_at, three_at, four_at}
use Rattle.envelope.specs.Qos.{splitting}
use Rattle.envelope.specs.Reading.{header_of, addressing_of, integrity_of, fields_of, reading_whole, reading}
use Rattle.envelope.specs.Sequence.{steps_on}
use Rattle.sheet.specs.Cases.{C, StarredCases}
use Rattle.sheet.proofs.Apart.{apart}

-- the size of the source that an answer hands out
source_size_in : AddressingFields → ℕ
source_size_in absent = 0
source_size_in (present ttl qos source destination) = source.size

source_in : Answer → ℕ
source_in (accepted f) = source_size_in f.addressing
source_in (refused r) = 0

pub sum_of_C : crc32 (take 19 C) ≡ 0xD9299F95
sum_of_C = crc32_computes (take 19 C) tt

pub starred : StarredCases
unfolding reading reading_whole fields_of header_of addressing_of integrity_of heading announced bad_flags bad_variable_size bad_addresses splits_up_to splits_at is_address ends_in_its_only_zero first_zero destination_size bad_integrity two_at three_at four_at steps_on splitting source_in source_size_in
starred =
    record {
      a = (refl, refl);
      b = refl;
      c = refl;
      d = (refl, refl);
      e = λ x. refl;
      f = refl;
      g = λ x. refl;
      h = (refl, refl);
      i_refused = refl;
      i_source = refl;
      i_destination = refl;
      i_differ = λ same. apart 1 0 tt (ap source_in same);
      k = refl;
      l = (refl, refl);
      m = refl;
      kind_crc_lem = rw sum_of_C;
    }
