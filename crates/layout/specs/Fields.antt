-- Which field a place of a message lies in, and the fields' order, by the envelope's table. RULES 1.
-- A message is given by its layout, whose three numbers specs/Layout takes from its bytes.
use Rattle.std.specs.Prelude.{ℕ, ◌+◌, cond, ◌≡◌, ltb}
use Rattle.envelope.specs.Layout.{type_place, message_version_place, flags_place, data_length_place, number_place, time_place, variable_size_place, header_size, qos_place, addresses_place, field_size}
use Rattle.layout.specs.declared.layout.Layout.{Layout}
use Rattle.layout.specs.declared.field.Field.{Field}
use Rattle.layout.specs.declared.field.Field.TheVariants.{HeaderVersion, MessageType, MessageVersion, Flags, DataLength, MessageNumber, MessageTime, VariableSize, Ttl, Qos, Source, Destination, Body, Integrity, Beyond}

-- the place of a field in the table, from 0; what lies past the message comes after all of them
abbrev pub order_of : Field → ℕ
order_of HeaderVersion = 0
order_of MessageType = 1
order_of MessageVersion = 2
order_of Flags = 3
order_of DataLength = 4
order_of MessageNumber = 5
order_of MessageTime = 6
order_of VariableSize = 7
order_of Ttl = 8
order_of Qos = 9
order_of Source = 10
order_of Destination = 11
order_of Body = 12
order_of Integrity = 13
order_of Beyond = 14

-- the first 17 bytes
unfoldable pub header_field : ℕ → Field
header_field p =
    cond (ltb p type_place) HeaderVersion
    (cond (ltb p message_version_place) MessageType
    (cond (ltb p flags_place) MessageVersion
    (cond (ltb p data_length_place) Flags
    (cond (ltb p number_place) DataLength
    (cond (ltb p time_place) MessageNumber
    (cond (ltb p variable_size_place) MessageTime
    VariableSize))))))

-- the variable header, where each address has its closing zero
unfoldable pub variable_field : ℕ → ℕ → Field
variable_field destination p =
    cond (ltb p qos_place) Ttl
    (cond (ltb p addresses_place) Qos
    (cond (ltb p destination) Source
    Destination))

unfoldable pub field_at : Layout → ℕ → Field
field_at l p =
    cond (ltb p header_size) (header_field p)
    (cond (ltb p l.body) (variable_field l.destination p)
    (cond (ltb p (l.body + l.body_size)) Body
    (cond (ltb p (l.body + l.body_size + field_size)) Integrity
    Beyond)))

-- what `field_at` promises
abbrev pub LiesIn : Layout → ℕ → Field → Type 0
LiesIn l p r = r ≡ field_at l p

-- what `u8::from` promises of a field
abbrev pub TellsOrder : Field → ℕ → Type 0
TellsOrder f r = r ≡ order_of f
