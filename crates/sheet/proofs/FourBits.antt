-- Four bits that change unseen, computed.
-- Both messages have one sum.
use mathlib.Core.Path.{◌≡◌, refl}
use lib.Dec.{lit≤}
use lib.ListN.{take}
use Rattle.sum.specs.Crc.{crc32}
use Rattle.sum.specs.Detection.{bits_of}
use Rattle.sum.specs.Flips.{places_apart, bits_apart}
use Rattle.sum.proofs.Computed.{crc32_computes}
use Rattle.envelope.specs.Addresses.{bad_addresses}
use Rattle.envelope.specs.Fields.{absent, crc, Fields, accepted}
use Rattle.envelope.specs.Flags.{bad_flags}
use Rattle.envelope.specs.Heading.{announced, bad_variable_size, heading}
use Rattle.envelope.specs.IntegrityField.{bad_integrity}
use Rattle.envelope.specs.Numbers.{two_at, three_at, four_at}
use Rattle.envelope.specs.Reading.{header_of, addressing_of, integrity_of, fields_of, reading_whole, reading}
use Rattle.sheet.specs.FourBits.{zeros, four_set, FourBits}

pub sum_zeros : crc32 (take 393 zeros) ≡ 0x6E8DEA63
sum_zeros = crc32_computes (take 393 zeros) tt

pub sum_four : crc32 (take 393 four_set) ≡ 0x6E8DEA63
sum_four = crc32_computes (take 393 four_set) tt

abbrev told : Fields
told =
    record {
      header = record { message_type = 6000; version = 1; flags = 8; number = 1; time = 0 };
      addressing = absent;
      body = record { place = 17; size = 376 };
      integrity = crc 0x6E8DEA63;
    }

pub reads_zeros : reading zeros ≡ accepted told
unfolding reading reading_whole fields_of header_of addressing_of integrity_of heading announced bad_flags bad_variable_size bad_addresses bad_integrity two_at three_at four_at
reads_zeros = rw sum_zeros

pub reads_four : reading four_set ≡ accepted told
unfolding reading reading_whole fields_of header_of addressing_of integrity_of heading announced bad_flags bad_variable_size bad_addresses bad_integrity two_at three_at four_at
reads_four = rw sum_four

pub four_bits : FourBits
unfolding bits_apart bits_of places_apart
four_bits =
    record {
      first = record { fields = told; accepts = reads_zeros; declares = refl };
      second = record { fields = told; accepts = reads_four; declares = refl };
      one-length = refl;
      short = lit≤ tt;
      same_field = refl;
      four_apart = refl;
    }
