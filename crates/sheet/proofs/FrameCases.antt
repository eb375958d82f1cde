-- The cases of K12, computed from the definitions. The messages in them have no CRC, so that no sum is computed.
use mathlib.Core.Path.{refl}
use Rattle.envelope.specs.Addresses.{bad_addresses}
use Rattle.envelope.specs.Flags.{bad_flags}
use Rattle.envelope.specs.Heading.{announced, bad_variable_size, heading}
use Rattle.envelope.specs.IntegrityField.{bad_integrity}
use Rattle.envelope.specs.Numbers.{two_at, three_at, four_at}
use Rattle.envelope.specs.Reading.{header_of, addressing_of, integrity_of, fields_of, reading_whole, reading}
use Rattle.sheet.specs.FrameCases.{UnwrapCases, WrapCases, FirstCases}
use Rattle.frame.specs.Wrapping.{wrapping, acknowledging}
use Rattle.frame.specs.Capturing.{first_size}
use Rattle.frame.specs.Frames.{frame}
use Rattle.frame.specs.Unwrapping.{wrong_version, other_type, wrong_length, carrying, unwrapping}

pub unwrap_cases : UnwrapCases
unfolding unwrapping carrying wrong_version other_type wrong_length reading reading_whole fields_of header_of addressing_of integrity_of heading announced bad_flags bad_variable_size bad_addresses bad_integrity two_at three_at four_at
unwrap_cases =
    record {
      data_frame_lem = refl;
      acknowledged = refl;
      commid_0 = refl;
      nothing = refl;
      twelve = refl;
      thirteen = refl;
      no_stx_lem = refl;
      old_protocol = refl;
      new_message = refl;
      new_acknowledgment = refl;
      negative = refl;
      no_type = refl;
      byte_behind_lem = refl;
      byte_short = refl;
      length_more = refl;
      length_less = refl;
      little_endian = refl;
      length_most = refl;
      three = refl;
      five = refl;
      no_etx_lem = refl;
      no_etx_acknowledged = refl;
      message_version_lem = refl;
      message_integrity = refl;
      stx_before_version = refl;
      version_before_type = refl;
      type_before_length = refl;
      length_before_etx = refl;
      etx_before_message = refl;
    }

pub wrap_cases : WrapCases
unfolding wrapping acknowledging frame reading reading_whole fields_of header_of addressing_of integrity_of heading announced bad_flags bad_variable_size bad_addresses bad_integrity two_at three_at four_at
wrap_cases =
    record {
      frames = refl;
      just_room = refl;
      no_room = refl;
      message_refused_first = refl;
      acknowledges = refl;
      no_room_acknowledged = refl;
    }

pub first_cases : FirstCases
unfolding first_size four_at
first_cases =
    record {
      no_bytes = refl;
      twelve_bytes = refl;
      one_frame = refl;
      then_another = refl;
      then_one_byte = refl;
      byte_missing = refl;
      no_frame = refl;
    }
