-- Judges that are wrong, and for each public function of the judge answers that a careless program would give, each refuted by computing.
-- Whatever else such an answer says: what is refuted is one verdict, one number or one place of it.
use Rattle.std.specs.Prelude.{Some}
use Prim.Native.Nat.{ℕ}
use mathlib.Core.List.{[], ◌∷◌, ◌++◌}
use mathlib.Core.Path.{◌≡◌, ap, sym, ◌∙◌}
use lib.ListN.{length, take, set}
use Rattle.sum.specs.Vectors.{digits}
use Rattle.envelope.specs.Fields.{Refusal}
use Rattle.envelope.specs.Flags.{bad_flags}
use Rattle.envelope.specs.Heading.{announced}
use Rattle.envelope.specs.IntegrityField.{bad_integrity}
use Rattle.envelope.specs.Numbers.{three_at, four_at}
use Rattle.envelope.specs.declared.reader.Fault.TheVariants.{TooShort, WrongVersion, BadAddresses, BadIntegrity}
use Rattle.judge.specs.Division.{Divides}
use Rattle.judge.specs.Rules.{RuleAnswer, RuleAnswers, least_rule, version_rule, flags_rule, variable_size_rule, length_rule, addresses_rule, integrity_rule, broken_rules, LowestAnswer, none_broken, lowest}
use Rattle.judge.specs.Told.{told_verdict, told_judging, Judges, TellsLowest}
use Rattle.judge.specs.declared.judging.Judging.{Judging}
use Rattle.judge.specs.declared.judging.Verdict.{Verdict}
use Rattle.judge.specs.declared.judging.Verdict.TheVariants.{Kept, Broken, NotJudged}
use Rattle.exports.specs.Verdicts.{verdict_number, place_number}
use Rattle.sheet.specs.Cases.{M}
use Rattle.sheet.specs.JudgeCases.{with_v133}
use Rattle.sheet.proofs.Apart.{apart}
use Rattle.sheet.proofs.JudgeCases.{crc_cases, judging_m}

-- answers are told apart by their numbers for C
told_number : (a b : Verdict) (r : RuleAnswer) → a ≡ b → told_verdict a ≡ r → verdict_number (told_verdict b) ≡ verdict_number r
told_number a b r wrong e = ap (λ (v : Verdict). verdict_number (told_verdict v)) (sym wrong) ∙ ap verdict_number e

-- ---- wrong judges

-- one that stops at the first broken rule: of the single byte 03 it tells 1, and not 2
pub a_judge_goes_on_after_a_broken_rule : (j : Judging) (r : Refusal) → broken_rules (told_judging j) ≡ r ∷ [] → Judges (3 ∷ []) j → ⊥
unfolding least_rule version_rule flags_rule variable_size_rule length_rule addresses_rule integrity_rule announced three_at
a_judge_goes_on_after_a_broken_rule j r wrong judges = apart 1 2 tt (ap length (sym wrong ∙ ap broken_rules judges))

-- one that judges rule 6 for V 133
pub rule_6_is_not_for_V_133 : (j : Judging) (place : ℕ) → j.addresses ≡ Broken place → Judges with_v133 j → ⊥
unfolding addresses_rule
rule_6_is_not_for_V_133 j place wrong judges = apart 1 2 tt (told_number j.addresses (Broken place) _ wrong (ap (λ (a : RuleAnswers). a.addresses) judges))

-- one whose rule 7 takes the last four bytes of what was lent: of M and a byte more
pub rule_7_is_not_on_the_last_four_bytes : (j : Judging) (place : ℕ) → j.integrity ≡ Broken place → Judges (M ++ (1 ∷ [])) j → ⊥
unfolding integrity_rule announced three_at four_at bad_integrity
rule_7_is_not_on_the_last_four_bytes j place wrong judges = apart 1 0 tt (told_number j.integrity (Broken place) _ wrong (ap (λ (a : RuleAnswers). a.integrity) judges))

-- one that calls a rule broken whose bytes are missing: rule 5 without byte 16, rule 6 of M, which has no addresses
pub missing_bytes_break_no_rule : (j : Judging) (place : ℕ) → j.length ≡ Broken place → Judges (take 16 M) j → ⊥
unfolding length_rule
missing_bytes_break_no_rule j place wrong judges = apart 1 2 tt (told_number j.length (Broken place) _ wrong (ap (λ (a : RuleAnswers). a.length) judges))

pub no_addresses_break_no_rule : (j : Judging) (place : ℕ) → j.addresses ≡ Broken place → Judges M j → ⊥
unfolding addresses_rule
no_addresses_break_no_rule j place wrong judges = apart 1 2 tt (told_number j.addresses (Broken place) _ wrong (ap (λ (a : RuleAnswers). a.addresses) judges))

-- ---- judge: every rule kept, whatever is lent; rule 7 judged only where rule 5 is kept

pub judge_does_not_keep_all : (j : Judging) → j.version ≡ Kept → Judges (set M 0 3) j → ⊥
unfolding version_rule
judge_does_not_keep_all j wrong judges = apart 0 1 tt (told_number j.version Kept _ wrong (ap (λ (a : RuleAnswers). a.version) judges))

pub judge_tries_7_where_5_is_broken : (j : Judging) → j.integrity ≡ NotJudged → Judges (set M 20 1 ++ (0 ∷ [])) j → ⊥
unfolding integrity_rule announced three_at four_at bad_integrity
judge_tries_7_where_5_is_broken j wrong judges = apart 2 1 tt (told_number j.integrity NotJudged _ wrong (ap (λ (a : RuleAnswers). a.integrity) judges))

-- ---- judge: a broken rule without its place; the last four bytes' place for the field's; rule 1 at its least size

told_place : (a b : Verdict) (r : RuleAnswer) → a ≡ b → told_verdict a ≡ r → place_number (told_verdict b) ≡ place_number r
told_place a b r wrong e = ap (λ (v : Verdict). place_number (told_verdict v)) (sym wrong) ∙ ap place_number e

pub a_broken_rule_has_its_place : (j : Judging) → j.flags ≡ Broken 0 → Judges (set M 4 0x20) j → ⊥
unfolding flags_rule bad_flags
a_broken_rule_has_its_place j wrong judges = apart 0 4 tt (told_place j.flags (Broken 0) _ wrong (ap (λ (a : RuleAnswers). a.flags) judges))

pub rule_7_points_to_17_V_D : (j : Judging) → j.integrity ≡ Broken 18 → Judges (set M 20 1 ++ (0 ∷ [])) j → ⊥
unfolding integrity_rule announced three_at four_at bad_integrity
rule_7_points_to_17_V_D j wrong judges = apart 18 17 tt (told_place j.integrity (Broken 18) _ wrong (ap (λ (a : RuleAnswers). a.integrity) judges))

pub rule_1_points_to_the_end : (j : Judging) → j.least ≡ Broken 21 → Judges (take 20 M) j → ⊥
unfolding least_rule
rule_1_points_to_the_end j wrong judges = apart 21 20 tt (told_place j.least (Broken 21) _ wrong (ap (λ (a : RuleAnswers). a.least) judges))

-- ---- lowest: the highest; a rule where none is broken; a rule that was not judged; the right rule at another's place

-- rules 2 and 7 broken, rule 6 not judged
abbrev judging_two : Judging
judging_two =
    record {
      least = Kept;
      version = Broken 0;
      flags = Kept;
      variable_size = Kept;
      length = Kept;
      addresses = NotJudged;
      integrity = Broken 17;
    }

-- told apart by number and place
lowest_number : LowestAnswer → ℕ
lowest_number none_broken = 0
lowest_number (lowest r) = r.number

lowest_place : LowestAnswer → ℕ
lowest_place none_broken = 0
lowest_place (lowest r) = r.place

pub lowest_is_not_the_highest : TellsLowest judging_two (Some (record { fault = BadIntegrity; place = 17 })) → ⊥
unfolding lowest_number
lowest_is_not_the_highest tells = apart 7 2 tt (ap lowest_number tells)

pub lowest_is_none_where_none_is_broken : TellsLowest judging_m (Some (record { fault = TooShort; place = 21 })) → ⊥
unfolding lowest_number
lowest_is_none_where_none_is_broken tells = apart 1 0 tt (ap lowest_number tells)

pub lowest_passes_over_what_was_not_judged : TellsLowest judging_m (Some (record { fault = BadAddresses; place = 21 })) → ⊥
unfolding lowest_number
lowest_passes_over_what_was_not_judged tells = apart 6 0 tt (ap lowest_number tells)

pub lowest_keeps_its_place : TellsLowest judging_two (Some (record { fault = WrongVersion; place = 17 })) → ⊥
unfolding lowest_place
lowest_keeps_its_place tells = apart 17 0 tt (ap lowest_place tells)

-- ---- divide: by the digits of another CRC; no digit inverted first; the last byte left out

pub divide_has_its_own_divisor : Divides digits 0xE3069283 → ⊥
divide_has_its_own_divisor divides = apart 0xE3069283 0xCBF43926 tt (divides ∙ crc_cases.check_value)

pub divide_inverts_the_front : Divides digits 0xD202D277 → ⊥
divide_inverts_the_front divides = apart 0xD202D277 0xCBF43926 tt (divides ∙ crc_cases.check_value)

pub divide_takes_the_last_byte : Divides digits 0x9AE0DAAF → ⊥
divide_takes_the_last_byte divides = apart 0x9AE0DAAF 0xCBF43926 tt (divides ∙ crc_cases.check_value)
