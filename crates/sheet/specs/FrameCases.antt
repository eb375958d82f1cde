-- K12 in cases about the definition: each number, the edges of the sizes, and two rules broken at once. Computed in proofs/FrameCases.
-- A case is a frame with bytes changed, left off or added.
use Rattle.std.specs.Prelude.{ℕ, List, [], ◌∷◌, ◌++◌, ◌≡◌, set, take}
use Rattle.envelope.specs.Fields.{absent, none, Fields, refusal_by}
use Rattle.frame.specs.Capturing.{first_size}
use Rattle.frame.specs.Wrapping.{written, wrapping, acknowledging}
use Rattle.frame.specs.Wrapping as wrap
use Rattle.frame.specs.Unwrapping.{UnwrapAnswer, message, acknowledgment, refused, unwrapping}
use Rattle.envelope.specs.Refusals.{plainly, passing_on}

-- a message of 24 bytes with STX and ETX inside its body
abbrev pub held : List ℕ
held = 4 ∷ 0 ∷ 9 ∷ 1 ∷ 0 ∷ 0 ∷ 0 ∷ 3 ∷ 0 ∷ 0 ∷ 0 ∷ 5 ∷ 0 ∷ 0 ∷ 0 ∷ 6 ∷ 0 ∷ 3 ∷ 2 ∷ 3 ∷ 0 ∷ 0 ∷ 0 ∷ 0 ∷ []

abbrev pub held_fields : Fields
held_fields =
    record {
      header = record { message_type = 9; version = 1; flags = 0; number = 5; time = 6 };
      addressing = absent;
      body = record { place = 17; size = 3 };
      integrity = none;
    }

-- it, as a data frame of 37 bytes under COMMID 0x01020304
abbrev pub carrier : List ℕ
carrier = 2 ∷ 2 ∷ 1 ∷ 2 ∷ 3 ∷ 4 ∷ 1 ∷ 2 ∷ 0 ∷ 0 ∷ 0 ∷ 24 ∷ held ++ 3 ∷ []

-- an acknowledgment of 17 bytes: COMMID 9, of message 0x01020304
abbrev pub reply : List ℕ
reply = 2 ∷ 2 ∷ 0 ∷ 0 ∷ 0 ∷ 9 ∷ 2 ∷ 2 ∷ 0 ∷ 0 ∷ 0 ∷ 4 ∷ 1 ∷ 2 ∷ 3 ∷ 4 ∷ 3 ∷ []

-- a data frame with an empty body
abbrev pub hollow : List ℕ
hollow = 2 ∷ 2 ∷ 0 ∷ 0 ∷ 0 ∷ 1 ∷ 1 ∷ 2 ∷ 0 ∷ 0 ∷ 0 ∷ 0 ∷ 3 ∷ []

abbrev pub no : ℕ → UnwrapAnswer
no n = refused (plainly n)

abbrev pub message_refused : (number place : ℕ) → UnwrapAnswer
message_refused number place = refused (passing_on 67 (refusal_by number place))

pub record UnwrapCases : Type 0 where
  -- good ones; ETX in the body is a byte like any other
  pub data_frame_lem : unwrapping carrier ≡ message 0x01020304 (record { place = 12; size = 24 }) held_fields
  pub acknowledged : unwrapping reply ≡ acknowledgment 9 0x01020304
  -- every number is a COMMID
  pub commid_0 : unwrapping (set (set (set (set carrier 2 0) 3 0) 4 0) 5 0) ≡ message 0 (record { place = 12; size = 24 }) held_fields
  -- 61: no bytes, 12, and 13, which are a frame (of a message too short)
  pub nothing : unwrapping [] ≡ no 61
  pub twelve : unwrapping (take 12 hollow) ≡ no 61
  pub thirteen : unwrapping hollow ≡ message_refused 1 0
  -- 62
  pub no_stx_lem : unwrapping (set carrier 0 3) ≡ no 62
  -- 63, of either version, and of an acknowledgment
  pub old_protocol : unwrapping (set carrier 1 1) ≡ no 63
  pub new_message : unwrapping (set carrier 7 3) ≡ no 63
  pub new_acknowledgment : unwrapping (set reply 7 1) ≡ no 63
  -- 64: type 3, a negative acknowledgment, and type 0
  pub negative : unwrapping (set carrier 6 3) ≡ no 64
  pub no_type : unwrapping (set carrier 6 0) ≡ no 64
  -- 65: one byte more and one less than the length says, a length that is one off, in the other order, or past all bytes
  pub byte_behind_lem : unwrapping (carrier ++ 3 ∷ []) ≡ no 65
  pub byte_short : unwrapping (take 36 carrier) ≡ no 65
  pub length_more : unwrapping (set carrier 11 25) ≡ no 65
  pub length_less : unwrapping (set carrier 11 23) ≡ no 65
  pub little_endian : unwrapping (set (set carrier 11 0) 8 24) ≡ no 65
  pub length_most : unwrapping (set (set (set (set carrier 8 255) 9 255) 10 255) 11 255) ≡ no 65
  -- 65: an acknowledgment's body of 3 and of 5 bytes, each with ETX last
  pub three : unwrapping (set (take 15 reply) 11 3 ++ 3 ∷ []) ≡ no 65
  pub five : unwrapping (set (take 16 reply) 11 5 ++ (0 ∷ 3 ∷ [])) ≡ no 65
  -- 66
  pub no_etx_lem : unwrapping (set carrier 36 2) ≡ no 66
  pub no_etx_acknowledged : unwrapping (set reply 16 0) ≡ no 66
  -- 67 with reading's own number: a header version, and an integrity field that is not 0
  pub message_version_lem : unwrapping (set carrier 12 5) ≡ message_refused 2 0
  pub message_integrity : unwrapping (set carrier 35 1) ≡ message_refused 7 20
  -- the first of two answers
  pub stx_before_version : unwrapping (set (set carrier 0 0) 1 0) ≡ no 62
  pub version_before_type : unwrapping (set (set carrier 7 0) 6 9) ≡ no 63
  pub type_before_length : unwrapping (set (set carrier 6 9) 11 9) ≡ no 64
  pub length_before_etx : unwrapping (set (set carrier 11 9) 36 9) ≡ no 65
  pub etx_before_message : unwrapping (set (set carrier 36 9) 12 5) ≡ no 66

pub record WrapCases : Type 0 where
  pub frames : wrapping held 0x01020304 99 ≡ written carrier
  pub just_room : wrapping held 0x01020304 37 ≡ written carrier
  pub no_room : wrapping held 0x01020304 36 ≡ wrap.refused (plainly 68)
  pub message_refused_first : wrapping (set held 0 5) 0x01020304 0 ≡ wrap.refused (passing_on 67 (refusal_by 2 0))
  pub acknowledges : acknowledging 9 0x01020304 17 ≡ written reply
  pub no_room_acknowledged : acknowledging 9 0x01020304 16 ≡ wrap.refused (plainly 68)

-- ---- captures

pub record FirstCases : Type 0 where
  pub no_bytes : first_size [] ≡ 0
  pub twelve_bytes : first_size (take 12 hollow) ≡ 12
  pub one_frame : first_size carrier ≡ 37
  pub then_another : first_size (carrier ++ reply) ≡ 37
  pub then_one_byte : first_size (reply ++ 2 ∷ []) ≡ 17
  -- a byte is missing; and the bytes are no frame, but have a data length
  pub byte_missing : first_size (take 36 carrier) ≡ 36
  pub no_frame : first_size (set carrier 0 9 ++ reply) ≡ 37
