-- What the first 17 bytes say by themselves: rules 2 to 4, and the length that they announce. RULES 1 and 2.
-- Laws in proofs/HeadingLaws: both depend on those bytes alone.
use Rattle.std.specs.Prelude.{ℕ, ◌+◌, Bool, cond, not, ◌&&◌, ◌||◌, List, ◌==◌, nat_le, nat_lt}
use Rattle.envelope.specs.Fields.{Refusal, refusal_by}
use Rattle.envelope.specs.Flags.{bad_flags}
use Rattle.envelope.specs.Layout.{header_version, version_place, flags_place, data_length_place, variable_size_place, header_size, field_size, smallest_variable, largest_variable}
use Rattle.envelope.specs.Numbers.{byte_at, three_at}

abbrev pub flags_of : List ℕ → ℕ
flags_of s = byte_at s flags_place

-- V and D
abbrev pub variable_size : List ℕ → ℕ
variable_size s = byte_at s variable_size_place

abbrev pub data_length : List ℕ → ℕ
data_length s = three_at s data_length_place

-- after header, variable header and body stands the integrity field, and with it the message ends: 17 + V + D + 4
abbrev pub field_place : List ℕ → ℕ
field_place s = header_size + variable_size s + data_length s

unfoldable pub announced : List ℕ → ℕ
announced s = field_place s + field_size

-- rule 2
abbrev pub wrong_version : List ℕ → Bool
wrong_version s = not (byte_at s version_place == header_version)

-- rule 4, of V
unfoldable pub bad_variable_size : ℕ → Bool
bad_variable_size v = nat_le 1 v && nat_lt v smallest_variable || nat_lt largest_variable v

-- the first of rules 2 to 4 that is broken
pub data HeadingAnswer : Type 0 where
  passed : HeadingAnswer
  refused : Refusal → HeadingAnswer

unfoldable pub heading : List ℕ → HeadingAnswer
heading s =
    cond (wrong_version s) (refused (refusal_by 2 version_place))
    (cond (bad_flags (flags_of s)) (refused (refusal_by 3 flags_place))
    (cond (bad_variable_size (variable_size s)) (refused (refusal_by 4 variable_size_place))
    passed))
