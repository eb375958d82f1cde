-- The cases of specs/NameCases, computed.
-- Each definition on the way is unfolded.
use mathlib.Core.Path.{refl}
use Rattle.envelope.specs.Addresses.{bad_addresses}
use Rattle.envelope.specs.Flags.{bad_flags}
use Rattle.envelope.specs.Heading.{heading, announced, bad_variable_size}
use Rattle.envelope.specs.IntegrityField.{bad_integrity}
use Rattle.envelope.specs.Numbers.{two_at, three_at, four_at}
use Rattle.envelope.specs.Reading.{reading, reading_whole, fields_of, header_of, addressing_of, integrity_of}
use Rattle.golden.specs.Checking.{repeats, check_from, checking}
use Rattle.golden.specs.File.{bad_file, judged_at}
use Rattle.golden.specs.Finding.{find_from, finding}
use Rattle.golden.specs.Making.{record_of}
use Rattle.golden.specs.Pairing.{any_below}
use Rattle.golden.specs.Record.{stored_word, is_retired, stored_length, all_zero, bad_length, judging}
use Rattle.golden.specs.Without26.{check_from_without26, checking_without26}
use Rattle.sheet.specs.NameCases.{NameCases}

pub names : NameCases
unfolding reading reading_whole fields_of header_of addressing_of integrity_of heading announced bad_flags bad_variable_size bad_addresses bad_integrity two_at three_at four_at bad_file record_of stored_word is_retired stored_length all_zero bad_length judging judged_at any_below repeats check_from checking check_from_without26 checking_without26 find_from finding
names =
    record {
      the_later = refl;
      passed_before = refl;
      finds_the_earlier = refl;
      three_times_lem = refl;
      far_apart = refl;
      other_number = refl;
      other_type_lem = refl;
      bad_between_lem = refl;
      bad_behind_lem = refl;
      bad_itself_lem = refl;
    }
