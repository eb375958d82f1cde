-- The envelope's table: where each field begins, and the sizes, each number named once. RULES 1.
-- The code names the same numbers as constants of `Envelope`; a mismatch fails the proof of reading.
use Rattle.std.specs.Prelude.{ℕ, ◌+◌}

abbrev pub header_version : ℕ
header_version = 4

-- the fixed header
abbrev pub version_place : ℕ
version_place = 0

abbrev pub type_place : ℕ
type_place = 1

abbrev pub message_version_place : ℕ
message_version_place = 3

abbrev pub flags_place : ℕ
flags_place = 4

abbrev pub data_length_place : ℕ
data_length_place = 5

abbrev pub number_place : ℕ
number_place = 8

abbrev pub time_place : ℕ
time_place = 12

abbrev pub variable_size_place : ℕ
variable_size_place = 16

abbrev pub header_size : ℕ
header_size = 17

-- the variable header: TTL, QoS, and then the addresses
abbrev pub ttl_place : ℕ
ttl_place = header_size

abbrev pub qos_place : ℕ
qos_place = header_size + 2

abbrev pub routing_size : ℕ
routing_size = 4

abbrev pub addresses_place : ℕ
addresses_place = header_size + routing_size

-- with two empty addresses: their closing zeros
abbrev pub smallest_variable : ℕ
smallest_variable = routing_size + 2

abbrev pub largest_variable : ℕ
largest_variable = 132

-- an address with its closing zero
abbrev pub largest_address : ℕ
largest_address = 64

-- the integrity field, and the least message: a header and that field
abbrev pub field_size : ℕ
field_size = 4

abbrev pub least_size : ℕ
least_size = header_size + field_size

-- the largest body that a data length of three bytes can state
abbrev pub largest_body : ℕ
largest_body = 16777215

-- the longest message: all parts at their largest
abbrev pub largest_message : ℕ
largest_message = header_size + largest_variable + largest_body + field_size
