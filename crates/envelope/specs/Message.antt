-- The bytes of a message, from what a sender gives: header, variable header, body, integrity field. RULES 3.
-- Header version, V and D are not given: they follow.
use Rattle.std.specs.Prelude.{ℕ, cond, List, [], ◌∷◌, ◌++◌, length, ◌==◌}
use Rattle.sum.specs.Crc.{crc32}
use Rattle.envelope.specs.Fields.{HeaderFields}
use Rattle.envelope.specs.Flags.{kind_of, kind_none, kind_crc}
use Rattle.envelope.specs.Layout.{header_version}
use Rattle.envelope.specs.Numbers.{in_two, in_three, in_four}

pub data RoutingFields : Type 0 where
  unaddressed : RoutingFields
  addressed : (ttl qos : ℕ) → RoutingFields

-- two addresses without their zeros, and an application's integrity number
pub record Given : Type 0 where
  pub header : HeaderFields
  pub routing : RoutingFields
  pub source : List ℕ
  pub destination : List ℕ
  pub body : List ℕ
  pub application : ℕ

-- the 17 bytes of a header, with V and D
abbrev pub header_bytes : HeaderFields → ℕ → ℕ → List ℕ
header_bytes h v d =
    header_version
    ∷ in_two h.message_type
    ++ (h.version ∷ h.flags ∷ in_three d)
    ++ in_four h.number
    ++ in_four h.time
    ++ (v ∷ [])

-- each address with its closing zero
abbrev pub variable_bytes : RoutingFields → List ℕ → List ℕ → List ℕ
variable_bytes unaddressed source destination = []
variable_bytes (addressed ttl qos) source destination =
    in_two ttl ++ in_two qos ++ (source ++ 0 ∷ (destination ++ 0 ∷ []))

abbrev pub variable_of : Given → List ℕ
variable_of g = variable_bytes g.routing g.source g.destination

-- all that stands before the integrity field
unfoldable pub before_field : Given → List ℕ
before_field g = header_bytes g.header (length (variable_of g)) (length g.body) ++ (variable_of g ++ g.body)

-- the number in the field: 0, the sum of all before it, or the application's
unfoldable pub field_number : ℕ → ℕ → List ℕ → ℕ
field_number kind application before = cond (kind == kind_none) 0 (cond (kind == kind_crc) (crc32 before) application)

unfoldable pub message : Given → List ℕ
message g = before_field g ++ in_four (field_number (kind_of g.header.flags) g.application (before_field g))
