-- K11 and what lies beyond it, from the sum's law of three bits: a message is the bytes summed and the four of their sum.
-- Where the field is the same no bit of it differs, so the bits that differ are those before it.
use Rattle.std.proofs.Common.{◌≡◌, ℕ, ◌+◌, ◌-◌, ◌≤◌, List, ◌++◌, length, take, drop, sym, ap, ◌∙◌, ap₂, arith, take-append-drop, length-take-le}
use Rattle.sum.specs.Crc.{crc32}
use Rattle.sum.specs.Detection.{Bytes}
use Rattle.sum.specs.Flips.{places_apart, bits_apart, low_bits}
use Rattle.sum.proofs.Flips.{detects_three_flips, places_apart_same, bits_apart_same, bits_apart-append, bits_apart_field}
use Rattle.sum.proofs.Laws.{crc32_lt, bytes_take}
use Rattle.envelope.specs.Demand3.{DeclaresCrc}
use Rattle.envelope.specs.Layout.{field_size}
use Rattle.envelope.specs.Numbers.{in_four}
use Rattle.envelope.specs.TwoBits.{longest, summed, TwoBitsAnywhere, ThreeBitsAnywhere}
use Rattle.envelope.proofs.DemandLaws.{sum_s, sum_t, field_s, field_t, same_before, same_sums}

module _ (s t : List ℕ) (bs : Bytes s) (bt : Bytes t) (l : length s ≡ length t) (short : length s ≤ longest) (ds : DeclaresCrc s) (dt : DeclaresCrc t) where
  abbrev end : ℕ
  end = length s - field_size

  abbrev x : List ℕ
  x = take end s

  abbrev y : List ℕ
  y = take end t

  long_x : length x ≡ end
  long_x = length-take-le end s (omega arith)

  long_y : length y ≡ end
  long_y = length-take-le end t (omega arith)

  -- the bits of the two sums that differ
  abbrev in_sums : ℕ
  in_sums = places_apart (low_bits 32 (crc32 x)) (low_bits 32 (crc32 y))

  few_fronts : bits_apart x y + in_sums ≤ 3 → x ≡ y
  few_fronts few =
      detects_three_flips x y (bytes_take end s bs) (bytes_take end t bt) (long_x ∙ sym long_y) (omega (arith, long_x)) few

  parts_s : s ≡ x ++ in_four (crc32 x)
  parts_s = sym (take-append-drop end s) ∙ ap (λ (f : List ℕ). x ++ f) (field_s s t bs bt l ds dt ∙ ap in_four (sum_s s t bs bt l ds dt))

  parts_t : t ≡ y ++ in_four (crc32 y)
  parts_t = sym (take-append-drop end t) ∙ ap (λ (f : List ℕ). y ++ f) (field_t s t bs bt l ds dt ∙ ap in_four (sum_t s t bs bt l ds dt))

  all_bits : bits_apart s t ≡ bits_apart x y + in_sums
  all_bits =
      ap₂ bits_apart parts_s parts_t
      ∙ bits_apart-append x y (in_four (crc32 x)) (in_four (crc32 y)) (long_x ∙ sym long_y)
      ∙ ap (λ (n : ℕ). bits_apart x y + n)
      (bits_apart_field (crc32 x) (crc32 y) (crc32_lt x (bytes_take end s bs)) (crc32_lt y (bytes_take end t bt)))

  same_field : drop end s ≡ drop end t → in_sums ≡ 0
  same_field e =
      ap (λ (c : ℕ). places_apart (low_bits 32 c) (low_bits 32 (crc32 y))) (same_sums s t bs bt l ds dt e)
      ∙ places_apart_same (low_bits 32 (crc32 y))

  one_or_two : drop end s ≡ drop end t → 1 ≤ bits_apart x y → bits_apart x y ≤ 2 → ⊥
  one_or_two e least most =
      let none = ap (bits_apart x) (sym (few_fronts (omega (arith, same_field e)))) ∙ bits_apart_same x in
      omega (arith, none)

pub three_bits_anywhere : ThreeBitsAnywhere
three_bits_anywhere s t bs bt l short ds dt few =
    same_before s t bs bt l ds dt (few_fronts s t bs bt l short ds dt (omega (arith, all_bits s t bs bt l short ds dt)))

pub two_bits_anywhere : TwoBitsAnywhere
two_bits_anywhere s t bs bt l short ds dt fields least most =
    one_or_two s t bs bt l short ds dt (fields ∙ ap (λ (n : ℕ). drop (n - field_size) t) (sym l)) (omega (arith, counts)) (omega (arith, counts))
  where
    counts : bits_apart (summed s) (summed t) ≡ bits_apart (summed s) (take (length s - field_size) t)
    counts = ap (λ (n : ℕ). bits_apart (summed s) (take (n - field_size) t)) (sym l)
