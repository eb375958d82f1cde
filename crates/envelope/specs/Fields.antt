-- The paper's answers to reading, in plain numbers: the fields of an accepted message, or a refusal with its number, its place and no fields. RULES 1 and 2.
-- The code's own types are told in these, by specs/Told.
use Rattle.std.specs.Prelude.{ℕ, List, take, drop}

-- a part of the bytes lent: its first place and its size
pub record Span : Type 0 where
  pub place : ℕ
  pub size : ℕ

pub record HeaderFields : Type 0 where
  pub message_type : ℕ
  pub version : ℕ
  pub flags : ℕ
  pub number : ℕ
  pub time : ℕ

-- no variable header; or TTL, QoS, source and destination, each end without its zero
pub data AddressingFields : Type 0 where
  absent : AddressingFields
  present : (ttl qos : ℕ) (source destination : Span) → AddressingFields

pub data IntegrityFields : Type 0 where
  none : IntegrityFields
  crc : ℕ → IntegrityFields
  application : ℕ → IntegrityFields

pub record Fields : Type 0 where
  pub header : HeaderFields
  pub addressing : AddressingFields
  pub body : Span
  pub integrity : IntegrityFields

-- the rule that is broken, and the place in the message that it names
pub record Refusal : Type 0 where
  pub number : ℕ
  pub place : ℕ

pub data Answer : Type 0 where
  accepted : Fields → Answer
  refused : Refusal → Answer

-- the refusal of a rule, at a place
abbrev pub refusal_by : (number place : ℕ) → Refusal
refusal_by number place = record { number = number; place = place }

abbrev pub refused_by : (number place : ℕ) → Answer
refused_by number place = refused (refusal_by number place)

-- the bytes of a part
abbrev pub part_of : List ℕ → Span → List ℕ
part_of s p = take p.size (drop p.place s)
