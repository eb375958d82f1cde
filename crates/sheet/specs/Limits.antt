-- What demand 3 and K11 do not say, shown by messages: in one window across the field's edge it is false, a change of the declared kind is another message,
-- and a record's stored length is not the message's. The checker computes all three, in proofs/Limits.
use Rattle.std.specs.Prelude.{ℕ, ◌≤◌, ◌<◌, List, [], ◌∷◌, ◌++◌, ◌≡◌, length, set, replicate}
use Rattle.sum.specs.Detection.{Bytes}
use Rattle.envelope.specs.Demand3.{DeclaresCrc, SameOutside}
use Rattle.envelope.specs.Fields.{application, accepted}
use Rattle.envelope.specs.Reading.{reading}
use Rattle.envelope.specs.TwoBits.{bits_apart}
use Rattle.golden.specs.Checking.{counted, checking}
use Rattle.golden.specs.File.{record_at}
use Rattle.golden.specs.Making.{record_of}
use Rattle.golden.specs.Record.{message_of}
use Rattle.sheet.specs.Cases.{C, fields_of_c}

-- C with two body bytes and the first two of its field changed
abbrev pub across_the_edge : List ℕ
across_the_edge =
    0x04 ∷ 0x17 ∷ 0x70 ∷ 0x01 ∷ 0x08 ∷ 0x00 ∷ 0x00 ∷ 0x02 ∷ 0x00 ∷ 0x00 ∷ 0x00 ∷ 0x01 ∷ 0x00 ∷ 0x00 ∷ 0x00 ∷ 0x00 ∷ 0x00
    ∷ 0x61 ∷ 0xD8 ∷ 0x2D ∷ 0xC7 ∷ 0x9F ∷ 0x95 ∷ []

pub record Limits : Type 0 where
  -- two accepted CRC messages that differ, at the places 17 to 20 alone: the field begins at 19
  pub first : DeclaresCrc C
  pub second : DeclaresCrc across_the_edge
  pub same_outside : SameOutside 17 C across_the_edge
  pub they_differ : C ≡ across_the_edge → ⊥
  -- flags 08 made 10: the same bytes are an application's message, and its field may hold any number
  pub other_kind :
      reading (set C 4 0x10)
      ≡ accepted
      (record {
        header = record { message_type = 6000; version = 1; flags = 16; number = 1; time = 0 };
        addressing = fields_of_c.addressing;
        body = fields_of_c.body;
        integrity = application 0xD9299F95;
      })

-- a body of four bytes; and one of 132, which a bit of the data length makes of the zeros behind it, with one more bit set for the sum
abbrev pub short_body : List ℕ
short_body =
    0x04 ∷ 0x17 ∷ 0x70 ∷ 0x01 ∷ 0x08 ∷ 0x00 ∷ 0x00 ∷ 0x04 ∷ 0x00 ∷ 0x00 ∷ 0x00 ∷ 0x01 ∷ 0x00 ∷ 0x00 ∷ 0x00 ∷ 0x00 ∷ 0x00
    ∷ 0x5F ∷ 0x10 ∷ 0x02 ∷ 0x00 ∷ 0x68 ∷ 0xE3 ∷ 0xAE ∷ 0xEC ∷ []

abbrev pub long_body : List ℕ
long_body = set (set (short_body ++ replicate 128 0) 7 0x84) 107 0x80

-- both records check, and three bits are between them, one of them in the stored length
pub record StoredLength : Type 0 where
  pub first : DeclaresCrc short_body
  pub second : DeclaresCrc long_body
  pub three_apart : bits_apart (record_of short_body) (record_of long_body) ≡ 3

-- K11 of a whole file, stored lengths included: so many bits anywhere, and a record whose message declares a CRC in both. It is false for three
abbrev pub FileBits : ℕ → Type 0
FileBits bits =
    (f g : List ℕ) (n m r : ℕ) → Bytes f → Bytes g → checking f ≡ counted n → checking g ≡ counted m → r < n
    → DeclaresCrc (message_of (record_at f r)) → DeclaresCrc (message_of (record_at g r)) → length f ≡ length g → bits_apart f g ≤ bits → f ≡ g
