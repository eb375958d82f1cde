-- The messages that bound demand 3, computed.
-- Before the window and past it both are the same list, so every place there is the same.
use mathlib.Core.List.{List}
use mathlib.Core.Path.{◌≡◌, refl, sym, ap, ◌∙◌}
use Prim.Native.Nat.{ℕ, ◌+◌, ◌-◌, ◌≤◌, ◌<◌}
use native.Mathlib.Omega.{arith}
use lib.ListN.{length, take, drop}
use lib.Seq.{get_or-take, get_or-drop}
use Rattle.sum.specs.Crc.{crc32}
use Rattle.sum.specs.Detection.{Bytes, bits_of}
use Rattle.sum.specs.Flips.{places_apart, bits_apart}
use Rattle.sum.proofs.Computed.{literals, crc32_computes}
use Rattle.envelope.specs.Addresses.{bad_addresses}
use Rattle.envelope.specs.Demand3.{SameOutside}
use Rattle.envelope.specs.Fields.{absent, crc, Fields, accepted}
use Rattle.envelope.specs.Flags.{bad_flags}
use Rattle.envelope.specs.Heading.{announced, bad_variable_size, heading}
use Rattle.envelope.specs.IntegrityField.{bad_integrity}
use Rattle.envelope.specs.Numbers.{byte_at, two_at, three_at, four_at}
use Rattle.envelope.specs.Reading.{header_of, addressing_of, integrity_of, fields_of, reading_whole, reading}
use Rattle.golden.specs.Making.{record_of}
use Rattle.sheet.specs.Cases.{C, fields_of_c}
use Rattle.sheet.specs.Limits.{across_the_edge, Limits, short_body, long_body, StoredLength}
use Rattle.sheet.proofs.Apart.{apart}
use Rattle.sheet.proofs.Cases.{starred}

pub sum_across : crc32 (take 19 across_the_edge) ≡ 0x2DC79F95
sum_across = crc32_computes (take 19 across_the_edge) tt

abbrev fields_across : Fields
fields_across =
    record {
      header = fields_of_c.header;
      addressing = absent;
      body = record { place = 17; size = 2 };
      integrity = crc 0x2DC79F95;
    }

reads_across : reading across_the_edge ≡ accepted fields_across
unfolding reading reading_whole fields_of header_of addressing_of integrity_of heading announced bad_flags bad_variable_size bad_addresses bad_integrity two_at three_at four_at
reads_across = rw sum_across

-- lists with the same a bytes in front and the same bytes from place b on are the same at each of these places
pub same_but : (a b : ℕ) (s t : List ℕ) → take a s ≡ take a t → drop b s ≡ drop b t
    → ((i : ℕ) → i < a → byte_at s i ≡ byte_at t i) × ((i : ℕ) → b ≤ i → byte_at s i ≡ byte_at t i)
same_but a b s t front rest = (before, after)
  where
    before : (i : ℕ) → i < a → byte_at s i ≡ byte_at t i
    before i h = sym (get_or-take a s i 0 h) ∙ ap (λ (x : List ℕ). byte_at x i) front ∙ get_or-take a t i 0 h

    after : (i : ℕ) → b ≤ i → byte_at s i ≡ byte_at t i
    after i h =
        let e : i ≡ b + (i - b) = omega arith in
        ap (byte_at s) e ∙ sym (get_or-drop b s (i - b) 0) ∙ ap (λ (x : List ℕ). byte_at x (i - b)) rest ∙ get_or-drop b t (i - b) 0 ∙ ap (byte_at t) (sym e)

pub limits : Limits
unfolding reading reading_whole fields_of header_of addressing_of integrity_of heading announced bad_flags bad_variable_size bad_addresses bad_integrity two_at three_at four_at
limits =
    record {
      first = record { fields = fields_of_c; accepts = starred.kind_crc_lem; declares = refl };
      second = record { fields = fields_across; accepts = reads_across; declares = refl };
      same_outside = same_but 17 21 C across_the_edge refl refl;
      they_differ = λ e. apart 0x00 0x61 tt (ap (λ (s : List ℕ). byte_at s 17) e);
      other_kind = refl;
    }

-- ---- the files of one record that hold the two messages, which differ across the edge

pub bytes_of_pair : Bytes (record_of C) × Bytes (record_of across_the_edge)
unfolding record_of
bytes_of_pair = (literals (record_of C) tt, literals (record_of across_the_edge) tt)

pub pair-length : length (record_of C) ≡ length (record_of across_the_edge)
unfolding record_of
pair-length = refl

pub pair_outside : SameOutside 19 (record_of C) (record_of across_the_edge)
unfolding record_of
pair_outside = same_but 19 23 (record_of C) (record_of across_the_edge) refl refl

-- ---- the stored length

stored_sums : (crc32 (take 21 short_body) ≡ 0x68E3AEEC) × (crc32 (take 149 long_body) ≡ 0)
stored_sums = (crc32_computes (take 21 short_body) tt, crc32_computes (take 149 long_body) tt)

abbrev fields_with : ℕ → ℕ → Fields
fields_with size sum =
    record { header = fields_of_c.header; addressing = absent; body = record { place = 17; size = size }; integrity = crc sum }

stored_read : (reading short_body ≡ accepted (fields_with 4 0x68E3AEEC)) × (reading long_body ≡ accepted (fields_with 132 0))
unfolding reading reading_whole fields_of header_of addressing_of integrity_of heading announced bad_flags bad_variable_size bad_addresses bad_integrity two_at three_at four_at
stored_read = (rw stored_sums.0, rw stored_sums.1)

pub stored-length : StoredLength
unfolding bits_apart bits_of places_apart record_of
stored-length =
    record {
      first = record { fields = fields_with 4 0x68E3AEEC; accepts = stored_read.0; declares = refl };
      second = record { fields = fields_with 132 0; accepts = stored_read.1; declares = refl };
      three_apart = refl;
    }
