-- The cases of specs/RetiredCases, computed.
-- Each definition on the way is unfolded.
use mathlib.Core.Path.{refl}
use Rattle.envelope.specs.Addresses.{bad_addresses}
use Rattle.envelope.specs.Flags.{bad_flags}
use Rattle.envelope.specs.Heading.{heading, announced, bad_variable_size}
use Rattle.envelope.specs.IntegrityField.{bad_integrity}
use Rattle.envelope.specs.Numbers.{two_at, three_at, four_at}
use Rattle.envelope.specs.Reading.{reading, reading_whole, fields_of, header_of, addressing_of, integrity_of}
use Rattle.golden.specs.Checking.{repeats, check_from, checking}
use Rattle.golden.specs.Comparing.{comparing}
use Rattle.golden.specs.File.{bad_file, judged_at}
use Rattle.golden.specs.Finding.{find_from, finding}
use Rattle.golden.specs.Listing.{entry_at, retired_below, counting_retired}
use Rattle.golden.specs.Making.{record_of}
use Rattle.golden.specs.Pairing.{any_below}
use Rattle.golden.specs.Record.{stored_word, is_retired, stored_length, all_zero, bad_length, judging}
use Rattle.golden.specs.Retiring.{marked, retiring}
use Rattle.golden.specs.Stepping.{step_at}
use Rattle.sheet.specs.RetiredCases.{RetiredCases}

pub retirings : RetiredCases
unfolding reading reading_whole fields_of header_of addressing_of integrity_of heading announced bad_flags bad_variable_size bad_addresses bad_integrity two_at three_at four_at bad_file record_of stored_word is_retired stored_length all_zero bad_length judging judged_at any_below repeats check_from checking find_from finding step_at entry_at retired_below counting_retired comparing retiring marked
retirings =
    record {
      withdrawn_passes = refl;
      short_marked_lem = refl;
      long_marked_lem = refl;
      broken_marked_lem = refl;
      withdrawn_name = refl;
      other_name = refl;
      stops_at_broken = refl;
      first_retired = refl;
      second_retired = refl;
      both_retired = refl;
      finds_second = refl;
      finds_first = refl;
      steps_retired = refl;
      steps_live = refl;
      lists_retired = refl;
      counts_retired = refl;
      counts_no_bad = refl;
      compares_retired = refl;
      before_31 = refl;
      after_25 = refl;
      retires = refl;
      no_record = refl;
      bad_record = refl;
      already = refl;
      too_short = refl;
      too_long = refl;
    }
