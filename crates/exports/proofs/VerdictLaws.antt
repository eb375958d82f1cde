-- The judge and the reader of the C interface agree: the lowest broken rule fits its slots, and has the number and the place that reading gives.
-- That the two readers agree is a law of the crate `judge`; here it is only read in slots.
use mathlib.Core.List.{List}
use mathlib.Core.Path.{◌≡◌, refl, sym, ap, subst, ◌∙◌}
use Prim.Native.Nat.{ℕ}
use native.Mathlib.Omega.{arith}
use Rattle.envelope.proofs.PlaceLaws.{number_few, places_within}
use Rattle.envelope.specs.Fields.{Answer, accepted, refused}
use Rattle.envelope.specs.Promise.{Bytes}
use Rattle.envelope.specs.Reading.{reading}
use Rattle.judge.specs.Agreement.{refusal_in}
use Rattle.judge.specs.Rules.{judging, broken_rules, LowestAnswer, lowest_of}
use Rattle.judge.proofs.AgreementLaws.{readers_agree}
use Rattle.exports.proofs.FitsLaws.{word_tells_its_slots}
use Rattle.exports.specs.Envelopes.{read_slots}
use Rattle.exports.specs.Verdicts.{lowest_slots, judge_slots, JudgeForCTellsReading}
use Rattle.exports.specs.Word.{Slots, unword, Fits, FitsWord}

-- the same refusal in the slots of both
record BothTell (a : Answer) : Type 0 where
  reads : Fits (read_slots a)
  judges : Fits (lowest_slots (refusal_in a))
  number : (lowest_slots (refusal_in a)).reading ≡ (read_slots a).number
  place : (lowest_slots (refusal_in a)).value ≡ (read_slots a).value

both_tell : (bytes : List ℕ) (a : Answer) → Bytes bytes → reading bytes ≡ a → BothTell a
both_tell bytes (accepted f) bs e =
    record {
      reads = record { number = omega arith; reading = omega arith; count = omega arith; value = omega arith };
      judges = record { number = omega arith; reading = omega arith; count = omega arith; value = omega arith };
      number = refl;
      place = refl;
    }
both_tell bytes (refused r) bs e =
    let few = number_few bytes r e in
    let near = places_within bytes r bs e in
    record {
      reads = record { number = omega (arith, few); reading = omega arith; count = omega arith; value = omega (arith, near) };
      judges = record { number = omega arith; reading = omega (arith, few); count = omega arith; value = omega (arith, near) };
      number = refl;
      place = refl;
    }

pub lowest_fits : (bytes : List ℕ) (l : LowestAnswer) → Bytes bytes → l ≡ lowest_of (broken_rules (judging bytes)) → FitsWord (lowest_slots l)
lowest_fits bytes l bs e =
    let fits = (both_tell bytes (reading bytes) bs refl).judges in
    subst (λ (x : LowestAnswer). FitsWord (lowest_slots x)) (sym (e ∙ (readers_agree bytes).1)) (fits.count, fits.value)

pub judge_for_c_tells_reading : JudgeForCTellsReading
judge_for_c_tells_reading bytes fields after answer judgement verdicts bs reads judges =
    let both = both_tell bytes (reading bytes) bs refl in
    let agree : judge_slots (judging bytes) ≡ lowest_slots (refusal_in (reading bytes)) = ap lowest_slots (readers_agree bytes).1 in
    let judged : unword judgement ≡ lowest_slots (refusal_in (reading bytes)) =
    ap unword judges.0 ∙ word_tells_its_slots (judge_slots (judging bytes)) (subst Fits (sym agree) both.judges) ∙ agree in
    let answered : unword answer ≡ read_slots (reading bytes) = ap unword reads.0 ∙ word_tells_its_slots (read_slots (reading bytes)) both.reads in (
      ap (λ (s : Slots). s.reading) judged ∙ both.number ∙ sym (ap (λ (s : Slots). s.number) answered),
      ap (λ (s : Slots). s.value) judged ∙ both.place ∙ sym (ap (λ (s : Slots). s.value) answered),
    )
