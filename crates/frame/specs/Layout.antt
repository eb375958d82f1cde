-- The table of a Class D frame (001, tables 3.2 to 3.5 and 8.1): constants, where each field begins, and the sizes, each number named once. RULES 8.
-- The code names the same numbers in `layout`; a mismatch fails a proof.
use Rattle.std.specs.Prelude.{ℕ, ◌+◌}

-- start and end of message
abbrev pub stx : ℕ
stx = 2

abbrev pub etx : ℕ
etx = 3

abbrev pub protocol_version : ℕ
protocol_version = 2

-- of a data message and of an acknowledgment alike
abbrev pub message_version : ℕ
message_version = 2

abbrev pub data_type : ℕ
data_type = 1

abbrev pub acknowledgment_type : ℕ
acknowledgment_type = 2

-- the fields before the body
abbrev pub stx_place : ℕ
stx_place = 0

abbrev pub protocol_version_place : ℕ
protocol_version_place = 1

abbrev pub commid_place : ℕ
commid_place = 2

abbrev pub type_place : ℕ
type_place = 6

abbrev pub message_version_place : ℕ
message_version_place = 7

abbrev pub length_place : ℕ
length_place = 8

abbrev pub body_place : ℕ
body_place = 12

-- a frame with an empty body: all before the body, and ETX
abbrev pub least_size : ℕ
least_size = body_place + 1

-- the body of an acknowledgment
abbrev pub commid_size : ℕ
commid_size = 4

-- the largest number that the four bytes of a data length can state
abbrev pub largest_length : ℕ
largest_length = 4294967295
