-- The cases of specs/HalvingCases, computed.
-- Each definition on the way is unfolded.
use mathlib.Core.Path.{refl}
use Rattle.envelope.specs.Addresses.{bad_addresses}
use Rattle.envelope.specs.Flags.{bad_flags}
use Rattle.envelope.specs.Heading.{heading, announced, bad_variable_size}
use Rattle.envelope.specs.IntegrityField.{bad_integrity}
use Rattle.envelope.specs.Numbers.{two_at, three_at, four_at}
use Rattle.envelope.specs.Reading.{reading, reading_whole, fields_of, header_of, addressing_of, integrity_of}
use Rattle.golden.specs.File.{bad_file, judged_at}
use Rattle.golden.specs.Finding.{find_from, finding}
use Rattle.golden.specs.Halving.{precedes, halving_from, halving}
use Rattle.golden.specs.Making.{record_of}
use Rattle.golden.specs.Record.{stored_word, is_retired, stored_length, all_zero, bad_length, judging}
use Rattle.golden.specs.Retiring.{marked}
use Rattle.golden.specs.Ordering.{in_place, order_from, ordering}
use Rattle.sheet.specs.HalvingCases.{HalvingCases, OrderCases}

pub halved : HalvingCases
unfolding reading reading_whole fields_of header_of addressing_of integrity_of heading announced bad_flags bad_variable_size bad_addresses bad_integrity two_at three_at four_at bad_file record_of stored_word is_retired stored_length all_zero bad_length judging judged_at marked precedes find_from finding halving_from halving
halved =
    record {
      upper = refl;
      lower = refl;
      middle_of_three = refl;
      last_of_three = refl;
      above_all = refl;
      below_all = refl;
      no_record = refl;
      no_file = refl;
      bad_record = refl;
      retired_match = refl;
      ends_at_retired = refl;
      finds = refl;
      misses = refl;
    }

pub ordered : OrderCases
unfolding reading reading_whole fields_of header_of addressing_of integrity_of heading announced bad_flags bad_variable_size bad_addresses bad_integrity two_at three_at four_at bad_file record_of stored_word is_retired stored_length all_zero bad_length judging judged_at marked precedes in_place order_from ordering
ordered =
    record {
      empty = refl;
      in_order = refl;
      type_first = refl;
      with_a_retired_one = refl;
      falls_back = refl;
      not_strictly = refl;
      one_retired = refl;
      no_file = refl;
      bad_record = refl;
      breaks_before_it = refl;
    }
