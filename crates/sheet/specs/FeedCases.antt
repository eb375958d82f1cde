-- K1 in cases about the definition: one piece into a feed, with all that it leaves, whole streams, and the end.
-- M and C are the messages of the starred cases. The checker computes every line, in proofs/FeedCases.
use Rattle.std.specs.Prelude.{ℕ, ◌-◌, List, [], ◌∷◌, ◌++◌, ◌≡◌, length, take, drop, set, replicate}
use Rattle.envelope.specs.Fields.{absent, refusal_by}
use Rattle.feed.specs.Feeding.{Stand, inside, whole, refused, State, fresh, Finding, nothing, message, FeedOutcome, taking, ending}
use Rattle.feed.specs.Stream.{streaming}
use Rattle.feed.specs.Verdict.{room, FeedRefusal, reads, too_long, cut}
use Rattle.sheet.specs.Cases.{M, like_m, with_addresses, C, fields_of_c}

-- a refusal of reading, at its place
abbrev pub number : (number place : ℕ) → FeedRefusal
number n place = reads (refusal_by n place)

-- a feed that began with zeros, and these bytes are in
abbrev pub held_by : List ℕ → Stand → State
held_by m stand = record { kept = m ++ replicate (room - length m) 0; count = length m; stand = stand }

-- a new feed has used these bytes, and found this
abbrev pub fed : List ℕ → Stand → Finding → FeedOutcome
fed m stand finding = record { state = held_by m stand; used = length m; finding = finding }

-- n bytes of the piece, refused
abbrev pub refused_at : ℕ → List ℕ → FeedRefusal → FeedOutcome
refused_at n piece fault = fed (take n piece) (refused fault) (refused fault)

-- nothing is used and nothing changes
abbrev pub unmoved : State → Finding → FeedOutcome
unmoved s finding = record { state = s; used = 0; finding = finding }

-- M with another announced length (D is 490: 511 bytes; 489: 510 bytes), and with V 5 beside it
abbrev pub announcing511 : List ℕ
announcing511 = set (set M 6 0x01) 7 0xEA

abbrev pub announcing510 : List ℕ
announcing510 = set (set M 6 0x01) 7 0xE9

-- C with one bit of its body flipped
abbrev pub damaged_c : List ℕ
damaged_c = set C 17 0x01

pub record FeedCases : Type 0 where
  -- found with the last byte, with size and fields; what stands behind it in the piece stays
  pub found : taking fresh (M ++ M) ≡ fed M whole (message 21 (like_m absent 17 0))
  pub found_crc : taking fresh (C ++ M) ≡ fed C whole (message 23 fields_of_c)
  -- a byte is missing
  pub missing : taking fresh (take 20 M) ≡ fed (take 20 M) inside nothing
  pub missing_crc : taking fresh (take 22 C) ≡ fed (take 22 C) inside nothing
  -- header faults: not with 16 bytes, and with the 17th, in the order 2, 3, 4, 51
  pub sixteen : taking fresh (take 16 (set M 0 3)) ≡ fed (take 16 (set M 0 3)) inside nothing
  pub no_2 : taking fresh (set M 0 3) ≡ refused_at 17 (set M 0 3) (number 2 0)
  -- and by the next piece, where the first ended with the 16th
  pub no_2_cut :
      taking (held_by (take 16 (set M 0 3)) inside) (drop 16 (set M 0 3))
      ≡ record { state = held_by (take 17 (set M 0 3)) (refused (number 2 0)); used = 1; finding = refused (number 2 0) }
  pub no_2_first : taking fresh (set (set M 0 3) 4 0x20) ≡ refused_at 17 (set (set M 0 3) 4 0x20) (number 2 0)
  pub no_3_first : taking fresh (set (set M 4 0x20) 16 5) ≡ refused_at 17 (set (set M 4 0x20) 16 5) (number 3 4)
  pub no_4_first : taking fresh (set announcing511 16 5) ≡ refused_at 17 (set announcing511 16 5) (number 4 16)
  pub no_51 : taking fresh announcing511 ≡ refused_at 17 announcing511 too_long
  pub room_for_510 : taking fresh announcing510 ≡ fed announcing510 inside nothing
  -- the others when the announced length is in; the message behind is not touched
  pub no_6 :
      taking fresh (with_addresses 7 (0x41 ∷ 0x41 ∷ 0 ∷ []) ++ M) ≡ refused_at 28 (with_addresses 7 (0x41 ∷ 0x41 ∷ 0 ∷ [])) (number 6 21)
  pub no_6_first :
      taking fresh (set (with_addresses 7 (0x41 ∷ 0x41 ∷ 0 ∷ [])) 27 1) ≡ refused_at 28 (set (with_addresses 7 (0x41 ∷ 0x41 ∷ 0 ∷ [])) 27 1) (number 6 21)
  pub no_7 : taking fresh (set M 20 1 ++ M) ≡ refused_at 21 (set M 20 1) (number 7 17)
  pub no_7_crc : taking fresh (damaged_c ++ M) ≡ refused_at 23 damaged_c (number 7 19)
  -- cut after ten bytes, and after the 17th
  pub cut_at_10 : taking (held_by (take 10 M) inside) (drop 10 M) ≡ record { state = held_by M whole; used = 11; finding = message 21 (like_m absent 17 0) }
  pub cut_at_17 : taking (held_by (take 17 C) inside) (drop 17 C) ≡ record { state = held_by C whole; used = 6; finding = message 23 fields_of_c }
  -- the next byte after a message is the first of another, and the rest of the room stays as it was
  pub next_message :
      taking (held_by C whole) (9 ∷ [])
      ≡ record { state = record { kept = set (held_by C whole).kept 0 9; count = 1; stand = inside }; used = 1; finding = nothing }
  -- no bytes, into a new feed, after a message, and after a refusal; and a whole message after a refusal
  pub no_bytes : taking fresh [] ≡ unmoved fresh nothing
  pub no_bytes_after : taking (held_by C whole) [] ≡ unmoved (held_by C whole) nothing
  pub no_bytes_refused : taking (held_by (take 17 announcing511) (refused too_long)) [] ≡ unmoved (held_by (take 17 announcing511) (refused too_long)) (refused too_long)
  pub not_resumed : taking (held_by (take 17 announcing511) (refused too_long)) M ≡ unmoved (held_by (take 17 announcing511) (refused too_long)) (refused too_long)
  -- the end: of a new feed, after a message, inside one, after a refusal
  pub end_of_new : ending fresh ≡ unmoved fresh nothing
  pub end_after : ending (held_by C whole) ≡ unmoved (held_by C whole) nothing
  pub end_within : ending (held_by (take 5 C) inside) ≡ unmoved (held_by (take 5 C) (refused cut)) (refused cut)
  pub end_refused : ending (held_by (take 17 announcing511) (refused too_long)) ≡ unmoved (held_by (take 17 announcing511) (refused too_long)) (refused too_long)
  -- a stream that ends inside its third message, and one that is refused in it: with the 17th of its bytes
  pub stream : streaming fresh (M ++ M ++ take 5 M) ≡ record { found = M ∷ M ∷ []; used = 47; state = record { kept = (held_by M whole).kept; count = 5; stand = inside } }
  pub stream_refused :
      streaming fresh (M ++ M ++ set M 0 3 ++ M)
      ≡ record { found = M ∷ M ∷ []; used = 59; state = record { kept = set (held_by M whole).kept 0 3; count = 17; stand = refused (number 2 0) } }
