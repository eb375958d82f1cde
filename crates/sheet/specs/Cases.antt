-- The starred cases a to m of document 01 as one table about the definitions, with all that it says of each, and the places of document 02. RULES 9.
-- Beside them one accepted message of kind CRC. The checker computes every line, in proofs/Cases.
use Rattle.std.specs.Prelude.{ℕ, ◌+◌, true, List, [], ◌∷◌, ◌++◌, ◌≡◌, pos, negsuc, length, take, drop, set}
use Rattle.envelope.specs.Fields.{AddressingFields, absent, present, none, crc, Fields, accepted, refused_by}
use Rattle.envelope.specs.Qos.{splitting}
use Rattle.envelope.specs.Reading.{wrong_length, reading}
use Rattle.envelope.specs.Sequence.{distance, behind, sequence_of}

-- type 6000, number 1, kind none
abbrev pub M : List ℕ
M =
    0x04 ∷ 0x17 ∷ 0x70 ∷ 0x01 ∷ 0x00 ∷ 0x00 ∷ 0x00 ∷ 0x00 ∷ 0x00 ∷ 0x00 ∷ 0x00 ∷ 0x01 ∷ 0x00 ∷ 0x00 ∷ 0x00 ∷ 0x00 ∷ 0x00
    ∷ 0x00 ∷ 0x00 ∷ 0x00 ∷ 0x00 ∷ []

-- the fields of M, with another addressing and another body
abbrev pub like_m : AddressingFields → ℕ → ℕ → Fields
like_m addressing place size =
    record {
      header = record { message_type = 6000; version = 1; flags = 0; number = 1; time = 0 };
      addressing = addressing;
      body = record { place = place; size = size };
      integrity = none;
    }

-- M with one body byte
abbrev pub with_body : ℕ → List ℕ
with_body b = take 17 (set M 7 1) ++ (b ∷ []) ++ drop 17 M

-- M with a variable header: V, TTL 120, QoS 0 and these address bytes
abbrev pub with_addresses : ℕ → List ℕ → List ℕ
with_addresses v addresses = take 16 M ++ (v ∷ 0 ∷ 120 ∷ 0 ∷ 0 ∷ []) ++ addresses ++ drop 17 M

-- TTL 120, QoS 0 and two ends of these sizes
abbrev pub ends : ℕ → ℕ → AddressingFields
ends source destination =
    present 120 0 (record { place = 21; size = source }) (record { place = 22 + source; size = destination })

-- kind CRC, type 6000, number 1, a body of two zeros
abbrev pub C : List ℕ
C =
    0x04 ∷ 0x17 ∷ 0x70 ∷ 0x01 ∷ 0x08 ∷ 0x00 ∷ 0x00 ∷ 0x02 ∷ 0x00 ∷ 0x00 ∷ 0x00 ∷ 0x01 ∷ 0x00 ∷ 0x00 ∷ 0x00 ∷ 0x00 ∷ 0x00
    ∷ 0x00 ∷ 0x00 ∷ 0xD9 ∷ 0x29 ∷ 0x9F ∷ 0x95 ∷ []

abbrev pub fields_of_c : Fields
fields_of_c =
    record {
      header = record { message_type = 6000; version = 1; flags = 8; number = 1; time = 0 };
      addressing = absent;
      body = record { place = 17; size = 2 };
      integrity = crc 0xD9299F95;
    }

pub record StarredCases : Type 0 where
  pub a : (reading M ≡ accepted (like_m absent 17 0)) × (length M ≡ 21)
  pub b : reading (take 20 M) ≡ refused_by 1 20
  pub c : reading (set M 0 3) ≡ refused_by 2 0
  -- though 5 holds as well
  pub d : (reading (set M 16 5) ≡ refused_by 4 16) × (wrong_length (set M 16 5) ≡ true)
  pub e : (x : ℕ) → reading (M ++ x ∷ []) ≡ refused_by 5 5
  pub f : reading (set M 20 1) ≡ refused_by 7 17
  pub g : (x : ℕ) → reading (with_body x) ≡ accepted (like_m absent 17 1)
  pub h : (reading (with_addresses 6 (0 ∷ 0 ∷ [])) ≡ accepted (like_m (ends 0 0) 23 0)) × (length (with_addresses 6 (0 ∷ 0 ∷ [])) ≡ 27)
  pub i_refused : reading (with_addresses 7 (0x41 ∷ 0x41 ∷ 0 ∷ [])) ≡ refused_by 6 21
  pub i_source : reading (with_addresses 7 (0x41 ∷ 0 ∷ 0 ∷ [])) ≡ accepted (like_m (ends 1 0) 24 0)
  pub i_destination : reading (with_addresses 7 (0 ∷ 0x41 ∷ 0 ∷ [])) ≡ accepted (like_m (ends 0 1) 24 0)
  pub i_differ : reading (with_addresses 7 (0x41 ∷ 0 ∷ 0 ∷ [])) ≡ reading (with_addresses 7 (0 ∷ 0x41 ∷ 0 ∷ [])) → ⊥
  pub k : distance 4294967295 0 ≡ pos 1
  -- minus 2,147,483,648
  pub l : (distance 0 2147483648 ≡ negsuc 2147483647) × (sequence_of (distance 0 2147483648) ≡ behind 2147483648)
  pub m : splitting 8 ≡ record { service_request = 0; special_handling = 0; network_preference = 0; priority = 1; class = 0 }
  pub kind_crc_lem : reading C ≡ accepted fields_of_c
