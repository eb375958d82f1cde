-- The cases of K5, computed from the definitions. A sum is computed by the crate `sum`, and division finds it by its law.
-- Beside them the answers for M as the code hands them out, of which the theorems of agreement then speak.
use Rattle.std.specs.Prelude.{Ok, None}
use Prim.Native.Nat.{◌+◌}
use mathlib.Core.List.{[], ◌∷◌}
use mathlib.Core.Path.{◌≡◌, refl, sym, ◌∙◌}
use lib.ListN.{take}
use Rattle.sum.specs.Vectors.{digits}
use Rattle.sum.proofs.Computed.{literals, vectors}
use Rattle.envelope.specs.Addresses.{ends_in_its_only_zero, is_address, splits_at, splits_up_to, bad_addresses}
use Rattle.envelope.specs.Flags.{bad_flags}
use Rattle.envelope.specs.Heading.{announced, bad_variable_size}
use Rattle.envelope.specs.IntegrityField.{bad_integrity}
use Rattle.envelope.specs.Numbers.{three_at, four_at}
use Rattle.envelope.specs.Reading.{reading}
use Rattle.envelope.specs.Told.{told}
use Rattle.judge.specs.Agreement.{Agree, refusal_in}
use Rattle.judge.specs.Rules.{none_broken, least_rule, version_rule, flags_rule, variable_size_rule, length_rule, addresses_rule, integrity_rule}
use Rattle.judge.specs.Told.{Judges}
use Rattle.judge.specs.declared.judging.Judging.{Judging}
use Rattle.judge.specs.declared.judging.Verdict.TheVariants.{Kept, NotJudged}
use Rattle.exports.specs.Envelopes.{ReadsForC}
use Rattle.exports.specs.Verdicts.{JudgesForC}
use Rattle.exports.specs.Word.{word, unword}
use Rattle.sheet.specs.Cases.{M, C}
use Rattle.sheet.specs.JudgeCases.{JudgedCases, CrcCases}
use Rattle.sheet.proofs.Cases.{sum_of_C, starred}
use Rattle.sheet.proofs.OneFeed.{envelope_m}
use Rattle.sheet.proofs.SecondReader.{answers_agree, lowest_is_readings, judge_for_c_tells_reading, divided_is_crc}

pub judged_cases : JudgedCases
unfolding least_rule version_rule flags_rule variable_size_rule length_rule addresses_rule integrity_rule bad_flags bad_variable_size announced three_at four_at bad_addresses splits_up_to splits_at is_address ends_in_its_only_zero bad_integrity
judged_cases = refl

pub crc_cases : CrcCases
unfolding least_rule version_rule flags_rule variable_size_rule length_rule addresses_rule integrity_rule bad_flags bad_variable_size announced three_at four_at bad_addresses bad_integrity
crc_cases =
    record {
      check_value = divided_is_crc digits (literals digits tt) ∙ vectors.check_value;
      found = divided_is_crc (take 19 C) (literals (take 19 C) tt) ∙ sum_of_C;
      field_holds = rw sum_of_C;
      field_does_not = rw sum_of_C;
      byte_behind_lem = rw sum_of_C;
    }

-- ---- M: accepted by the first reader, and no rule broken

abbrev pub judging_m : Judging
judging_m =
    record {
      least = Kept;
      version = Kept;
      flags = Kept;
      variable_size = Kept;
      length = Kept;
      addresses = NotJudged;
      integrity = Kept;
    }

pub judges_M : Judges M judging_m
unfolding least_rule version_rule flags_rule variable_size_rule length_rule addresses_rule integrity_rule bad_flags bad_variable_size announced three_at four_at bad_integrity
judges_M = refl

pub agree_on_M : Agree [] (told (Ok envelope_m))
agree_on_M = answers_agree M (Ok envelope_m) judging_m (sym starred.a.0) judges_M

pub lowest_of_M : none_broken ≡ refusal_in (told (Ok envelope_m))
lowest_of_M = lowest_is_readings M (Ok envelope_m) judging_m None (sym starred.a.0) judges_M refl

-- of the single byte 03 the reader of the C interface tells 1 at place 1, and so does its judge, in the slots for it
reads_a_byte : ReadsForC (3 ∷ []) [] (1 + 4294967296) []
unfolding reading word
reads_a_byte = (refl, refl)

judges_a_byte : JudgesForC (3 ∷ []) (256 + 4294967296) (1 ∷ 1 ∷ 2 ∷ 2 ∷ 2 ∷ 2 ∷ 2 ∷ [])
unfolding least_rule version_rule flags_rule variable_size_rule length_rule addresses_rule integrity_rule announced three_at word
judges_a_byte = (refl, refl)

pub for_c_of_a_byte :
    ((unword (256 + 4294967296)).reading ≡ (unword (1 + 4294967296)).number) × ((unword (256 + 4294967296)).value ≡ (unword (1 + 4294967296)).value)
for_c_of_a_byte = judge_for_c_tells_reading (3 ∷ []) [] [] (1 + 4294967296) (256 + 4294967296) _ (literals (3 ∷ []) tt) reads_a_byte judges_a_byte
