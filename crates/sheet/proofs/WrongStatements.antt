-- Statements that are a step too strong, each refuted by a pair of messages that the checker computed, by the files that hold them and by feeds that find them.
-- Four bits where three are shown (FourBits), three with the stored length and no window left out (Limits), and five neighbouring bytes.
use mathlib.Core.List.{List, []}
use mathlib.Core.Path.{◌≡◌, refl, ap, sym, ◌∙◌}
use Prim.Native.Nat.{ℕ, ◌+◌, ◌%◌, ◌≤◌}
use native.Mathlib.Omega.{arith}
use lib.Dec.{lit≤, lit<}
use lib.ListN.{length, take, drop}
use Rattle.sum.specs.Crc.{crc32}
use Rattle.sum.specs.Detection.{Bytes, bits_of}
use Rattle.sum.specs.Edge.{DetectsAtEdgeBut}
use Rattle.sum.specs.Flips.{places_apart, bits_apart, low_bits, DetectsFlips}
use Rattle.sum.proofs.Computed.{literals, crc32_computes}
use Rattle.sum.proofs.Flips.{places_apart_same}
use Rattle.envelope.specs.AnyWindow.{WindowsBut}
use Rattle.envelope.specs.Addresses.{bad_addresses}
use Rattle.envelope.specs.Demand3.{DeclaresCrc}
use Rattle.envelope.specs.Fields.{absent, crc, Fields, accepted}
use Rattle.envelope.specs.Flags.{bad_flags}
use Rattle.envelope.specs.Heading.{announced, bad_variable_size, heading}
use Rattle.envelope.specs.IntegrityField.{bad_integrity}
use Rattle.envelope.specs.Numbers.{byte_at, two_at, three_at, four_at}
use Rattle.envelope.specs.Reading.{header_of, addressing_of, integrity_of, fields_of, reading_whole, reading}
use Rattle.envelope.specs.TwoBits.{summed, BitsBeforeField, BitsAnywhere}
use Rattle.envelope.specs.declared.fields.Envelope.{Envelope}
use Rattle.envelope.specs.declared.fields.Integrity.TheVariants.{Crc}
use Rattle.feed.specs.TwoBits.{FoundSomewhere, FeedBitsBeforeField, FeedBits}
use Rattle.golden.specs.File.{record_at}
use Rattle.golden.specs.Making.{record_of}
use Rattle.golden.specs.Record.{message_of}
use Rattle.golden.specs.Theorems.{SameButMessage, GoldenBitsBeforeField, GoldenBitsAnywhere, GoldenWindowsBut}
use Rattle.sheet.specs.Cases.{C}
use Rattle.sheet.specs.FourBits.{zeros, four_set}
use Rattle.sheet.specs.Limits.{across_the_edge, short_body, long_body, FileBits}
use Rattle.sheet.specs.WrongStatements.{DetectsFiveBytes, FivePlaces, with_five, five_zeros, five_others}
use Rattle.sheet.proofs.Apart.{apart}
use Rattle.sheet.proofs.Cases.{sum_of_C}
use Rattle.sheet.proofs.FourBits.{sum_zeros, sum_four, reads_zeros, reads_four, four_bits}
use Rattle.sheet.proofs.Limits.{sum_across, same_but, limits, bytes_of_pair, pair-length, pair_outside, stored-length}
use Rattle.sheet.proofs.OneFeed.{envelope_of, found_somewhere}
use Rattle.sheet.proofs.OneRecord.{one_checks, one_holds, one_declares}

-- ---- four bits

bytes_zeros : Bytes zeros
bytes_zeros = literals zeros tt

bytes_four : Bytes four_set
bytes_four = literals four_set tt

zeros_are_not_four : zeros ≡ four_set → ⊥
zeros_are_not_four e = apart 0 2 tt (ap (λ (s : List ℕ). byte_at s 17) e)

apart_before : bits_apart (summed zeros) (summed four_set) ≡ 4
unfolding bits_apart bits_of places_apart
apart_before = refl

pub four_flips_pass : DetectsFlips 4 → ⊥
four_flips_pass law =
    apart 0 2 tt
    (ap (λ (s : List ℕ). byte_at s 17)
    (law (summed zeros) (summed four_set) (literals (summed zeros) tt) (literals (summed four_set) tt) refl (lit≤ tt) few))
  where
    same_sums : places_apart (low_bits 32 (crc32 (summed zeros))) (low_bits 32 (crc32 (summed four_set))) ≡ 0
    same_sums =
        ap (λ (c : ℕ). places_apart (low_bits 32 c) (low_bits 32 (crc32 (summed four_set)))) (sum_zeros ∙ sym sum_four)
        ∙ places_apart_same (low_bits 32 (crc32 (summed four_set)))

    few : bits_apart (summed zeros) (summed four_set) + places_apart (low_bits 32 (crc32 (summed zeros))) (low_bits 32 (crc32 (summed four_set))) ≤ 4
    few = omega (arith, apart_before, same_sums)

pub four_bits_before_the_field_pass : BitsBeforeField 4 → ⊥
four_bits_before_the_field_pass law =
    law zeros four_set bytes_zeros bytes_four refl four_bits.short four_bits.first four_bits.second four_bits.same_field
    (omega (arith, apart_before)) (omega (arith, apart_before))

pub four_bits_anywhere_pass : BitsAnywhere 4 → ⊥
four_bits_anywhere_pass law =
    zeros_are_not_four
    (law zeros four_set bytes_zeros bytes_four refl four_bits.short four_bits.first four_bits.second (omega (arith, four_bits.four_apart)))

-- ---- four bits of a golden file

abbrev file_zeros : List ℕ
file_zeros = record_of zeros

abbrev file_four : List ℕ
file_four = record_of four_set

bytes_in_files : Bytes file_zeros × Bytes file_four
unfolding record_of
bytes_in_files = (literals file_zeros tt, literals file_four tt)

one-length : length file_zeros ≡ length file_four
unfolding record_of
one-length = refl

same_around : (take 2 file_zeros ≡ take 2 file_four) × (drop 399 file_zeros ≡ drop 399 file_four)
unfolding record_of
same_around = (refl, refl)

holds_zeros : message_of (record_at file_zeros 0) ≡ zeros
holds_zeros = one_holds zeros four_bits.first four_bits.short

holds_four : message_of (record_at file_four 0) ≡ four_set
holds_four = one_holds four_set four_bits.second four_bits.short

same_but_message : SameButMessage 0 file_zeros file_four
same_but_message = rw holds_zeros (same_but 2 399 file_zeros file_four same_around.0 same_around.1)

pub golden_four_bits_before_the_field_pass : GoldenBitsBeforeField 4 → ⊥
golden_four_bits_before_the_field_pass law =
    law file_zeros file_four 1 1 0 bytes_in_files.0 bytes_in_files.1
    (one_checks zeros four_bits.first four_bits.short) (one_checks four_set four_bits.second four_bits.short) (lit< tt)
    (one_declares zeros four_bits.first four_bits.short) (one_declares four_set four_bits.second four_bits.short) one-length same_but_message
    (rw (holds_zeros, holds_four) four_bits.same_field)
    (rw (holds_zeros, holds_four) (omega (arith, apart_before)))
    (rw (holds_zeros, holds_four) (omega (arith, apart_before)))

pub golden_four_bits_anywhere_pass : GoldenBitsAnywhere 4 → ⊥
golden_four_bits_anywhere_pass law =
    zeros_are_not_four (sym holds_zeros ∙ ap (λ (f : List ℕ). message_of (record_at f 0)) same ∙ holds_four)
  where
    same : file_zeros ≡ file_four
    same =
        law file_zeros file_four 1 1 0 bytes_in_files.0 bytes_in_files.1
        (one_checks zeros four_bits.first four_bits.short) (one_checks four_set four_bits.second four_bits.short) (lit< tt)
        (one_declares zeros four_bits.first four_bits.short) (one_declares four_set four_bits.second four_bits.short) one-length same_but_message
        (rw (holds_zeros, holds_four) (omega (arith, four_bits.four_apart)))

-- ---- three bits of a file, one of them in a stored length

bytes_of_lengths : Bytes (record_of short_body) × Bytes (record_of long_body)
unfolding record_of
bytes_of_lengths = (literals (record_of short_body) tt, literals (record_of long_body) tt)

lengths_long : length (record_of short_body) ≡ length (record_of long_body)
unfolding record_of
lengths_long = refl

pub three_bits_of_a_record_pass : FileBits 3 → ⊥
three_bits_of_a_record_pass law =
    apart 0x04 0x84 tt
    (ap (λ (m : List ℕ). byte_at m 7)
    (sym (one_holds short_body stored-length.first (lit≤ tt)) ∙ ap (λ (f : List ℕ). message_of (record_at f 0)) same ∙ one_holds long_body stored-length.second (lit≤ tt)))
  where
    same : record_of short_body ≡ record_of long_body
    same =
        law (record_of short_body) (record_of long_body) 1 1 0 bytes_of_lengths.0 bytes_of_lengths.1
        (one_checks short_body stored-length.first (lit≤ tt)) (one_checks long_body stored-length.second (lit≤ tt)) (lit< tt)
        (one_declares short_body stored-length.first (lit≤ tt)) (one_declares long_body stored-length.second (lit≤ tt)) lengths_long
        (omega (arith, stored-length.three_apart))

-- ---- four bits of what a feed finds

abbrev envelope_four : Envelope
envelope_four = envelope_of 8 376 (Crc 0x6E8DEA63)

finds_zeros : FoundSomewhere zeros
finds_zeros = found_somewhere zeros envelope_four four_bits.short reads_zeros bytes_zeros

finds_four : FoundSomewhere four_set
finds_four = found_somewhere four_set envelope_four four_bits.short reads_four bytes_four

pub feed_four_bits_before_the_field_pass : FeedBitsBeforeField 4 → ⊥
feed_four_bits_before_the_field_pass law =
    law zeros four_set finds_zeros finds_four refl four_bits.first four_bits.second four_bits.same_field
    (omega (arith, apart_before)) (omega (arith, apart_before))

pub feed_four_bits_pass : FeedBits 4 → ⊥
feed_four_bits_pass law =
    zeros_are_not_four (law zeros four_set finds_zeros finds_four refl four_bits.first four_bits.second (omega (arith, four_bits.four_apart)))

-- ---- no window left out: two bytes before the field and two in it

low_bytes_same : crc32 (take 19 C) % 65536 ≡ crc32 (take 19 across_the_edge) % 65536
low_bytes_same = rw (sum_of_C, sum_across)

pub two_and_two_pass : DetectsAtEdgeBut (λ n. ⊥) → ⊥
two_and_two_pass law =
    apart 0x00 0x61 tt
    (ap (λ (s : List ℕ). byte_at s 0)
    (law (take 17 C) (take 2 (drop 17 C)) (take 2 (drop 17 across_the_edge))
    (literals (take 17 C) tt) (literals (take 2 (drop 17 C)) tt) (literals (take 2 (drop 17 across_the_edge)) tt) refl (lit≤ tt) (λ n. n) low_bytes_same))

pub not_every_window : WindowsBut (λ k n. ⊥) → ⊥
not_every_window law =
    limits.they_differ
    (law C across_the_edge 17 (literals C tt) (literals across_the_edge tt) refl limits.first limits.second (λ n. n) limits.same_outside)

pub not_every_golden_window : GoldenWindowsBut (λ k n. ⊥) → ⊥
not_every_golden_window law =
    limits.they_differ
    (sym (one_holds C limits.first (lit≤ tt)) ∙ ap (λ (f : List ℕ). message_of (record_at f 0)) same ∙ one_holds across_the_edge limits.second (lit≤ tt))
  where
    same : record_of C ≡ record_of across_the_edge
    same =
        law (record_of C) (record_of across_the_edge) 1 1 0 17 bytes_of_pair.0 bytes_of_pair.1
        (one_checks C limits.first (lit≤ tt)) (one_checks across_the_edge limits.second (lit≤ tt)) (lit< tt)
        (one_declares C limits.first (lit≤ tt)) (one_declares across_the_edge limits.second (lit≤ tt)) (lit≤ tt) (λ n. n) pair-length pair_outside

-- ---- five neighbouring bytes

five_sums : (crc32 (take 22 (with_five five_zeros)) ≡ 0x2BF3A273) × (crc32 (take 22 (with_five five_others)) ≡ 0x2BF3A273)
five_sums = (crc32_computes (take 22 (with_five five_zeros)) tt, crc32_computes (take 22 (with_five five_others)) tt)

abbrev fields_of_five : Fields
fields_of_five =
    record {
      header = record { message_type = 6000; version = 1; flags = 8; number = 1; time = 0 };
      addressing = absent;
      body = record { place = 17; size = 5 };
      integrity = crc 0x2BF3A273;
    }

five_read : (reading (with_five five_zeros) ≡ accepted fields_of_five) × (reading (with_five five_others) ≡ accepted fields_of_five)
unfolding reading reading_whole fields_of header_of addressing_of integrity_of heading announced bad_flags bad_variable_size bad_addresses bad_integrity two_at three_at four_at
five_read = (rw five_sums.0, rw five_sums.1)

five_declare : DeclaresCrc (with_five five_zeros) × DeclaresCrc (with_five five_others)
five_declare =
    (record { fields = fields_of_five; accepts = five_read.0; declares = refl }, record { fields = fields_of_five; accepts = five_read.1; declares = refl })

pub five_bytes_pass : DetectsFiveBytes → ⊥
five_bytes_pass law =
    apart 0x00 0x05 tt
    (ap (λ (s : List ℕ). byte_at s 0)
    (law (take 17 (with_five five_zeros)) five_zeros five_others []
    (literals (take 17 (with_five five_zeros)) tt) (literals five_zeros tt) (literals five_others tt) (literals [] tt) refl (lit≤ tt)
    (five_sums.0 ∙ sym five_sums.1)))

pub five_places_pass : FivePlaces → ⊥
five_places_pass law =
    apart 0x00 0x05 tt
    (ap (λ (s : List ℕ). byte_at s 17)
    (law (with_five five_zeros) (with_five five_others) 17 (literals (with_five five_zeros) tt) (literals (with_five five_others) tt) refl
    five_declare.0 five_declare.1 (lit≤ tt) (same_but 17 22 (with_five five_zeros) (with_five five_others) refl refl)))
