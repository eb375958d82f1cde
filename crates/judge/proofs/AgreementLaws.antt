-- The two readers agree: a rule that is reached is the first reader's rule, so that the first broken one answers for both.
-- Rule by rule, each where those before it are kept.
use mathlib.Core.Bool.{Bool, true, false, cond}
use mathlib.Core.List.{List}
use mathlib.Core.Path.{◌≡◌, refl, sym, subst, ◌∙◌}
use Prim.Native.Nat.{ℕ, ◌≤◌}
use native.Mathlib.Omega.{arith}
use borrow.Author.Tests.{ltb-false, eqb-true, eqb-false, not-false}
use lib.Dec.{eqb}
use lib.ListN.{length}
use Rattle.envelope.specs.Addresses.{bad_addresses}
use Rattle.envelope.specs.Fields.{Refusal, Answer, accepted, refused_by}
use Rattle.envelope.specs.Flags.{kind_of, bad_flags}
use Rattle.envelope.specs.Heading.{flags_of, variable_size, field_place, announced, wrong_version, bad_variable_size}
use Rattle.envelope.specs.IntegrityField.{bad_integrity}
use Rattle.envelope.specs.Layout.{version_place, flags_place, data_length_place, variable_size_place, addresses_place}
use Rattle.envelope.specs.Reading.{too_short, wrong_length, fields_of}
use Rattle.envelope.specs.Told.{told}
use Rattle.envelope.proofs.HeadingLaws.{announced_is, size_least, size_most}
use Rattle.envelope.proofs.RuleLaws.{addresses_absent, reading_by_rules}
use Rattle.judge.specs.Agreement.{Agree, ReadersAgree, AnswersAgree, LowestIsReadings}
use Rattle.judge.specs.Rules.{RuleAnswer, kept, broken, not_judged, judged, least_rule, version_rule, flags_rule, variable_size_rule, length_rule, addresses_rule, integrity_rule, RuleAnswers, judging, listed, broken_rules}
use Rattle.judge.proofs.VerdictLaws.{least_always, version_near, flags_near, size_near, length_near, addresses_small, addresses_near, integrity_near}

-- an answer that says of a rule what b says, at its place where it is broken
pub data Says (place : ℕ) (b : Bool) (v : RuleAnswer) : Type 0 where
  says_broken : b ≡ true → v ≡ broken place → Says place b v
  says_kept : b ≡ false → v ≡ kept → Says place b v
  says_nothing : b ≡ false → v ≡ not_judged → Says place b v

of_judged : (place : ℕ) (b : Bool) (v : RuleAnswer) → v ≡ judged place b → Says place b v
of_judged place true v e = says_broken refl e
of_judged place false v e = says_kept refl e

-- one rule more in front
in_front : (b : Bool) (v : RuleAnswer) (n place : ℕ) (rest : List Refusal) (answer : Answer) → Says place b v
    → (b ≡ false → Agree rest answer) → Agree (listed v n rest) (cond b (refused_by n place) answer)
in_front b v n place rest answer (says_broken eb ev) f = rw (eb, ev) (refl, refl)
in_front b v n place rest answer (says_kept eb ev) f = rw (eb, ev) (f eb)
in_front b v n place rest answer (says_nothing eb ev) f = rw (eb, ev) (f eb)

-- ---- each rule, where those before it are kept

module _ (s : List ℕ) where
  long : too_short s ≡ false → 21 ≤ length s
  long e = ltb-false (length s) 21 e

  whole : wrong_length s ≡ false → announced s ≡ length s
  whole e = eqb-true (announced s) (length s) (not-false _ e)

  addresses_say : bad_variable_size (variable_size s) ≡ false → announced s ≡ length s → Says addresses_place (bad_addresses s (variable_size s)) (addresses_rule s)
  addresses_say e w = go (eqb (variable_size s) 0) refl
    where
      go : (b : Bool) → eqb (variable_size s) 0 ≡ b → Says addresses_place (bad_addresses s (variable_size s)) (addresses_rule s)
      go true q =
          let z = eqb-true (variable_size s) 0 q in
          says_nothing (addresses_absent s (variable_size s) z) (addresses_small s (omega arith))
      go false q =
          let least = size_least (variable_size s) e (eqb-false (variable_size s) 0 q) in
          let most = size_most (variable_size s) e in
          of_judged _ _ _ (addresses_near s least most (omega (arith, announced_is s)))

  chain : Agree (broken_rules (judging s))
      (cond (too_short s) (refused_by 1 (length s))
      (cond (wrong_version s) (refused_by 2 version_place)
      (cond (bad_flags (flags_of s)) (refused_by 3 flags_place)
      (cond (bad_variable_size (variable_size s)) (refused_by 4 variable_size_place)
      (cond (wrong_length s) (refused_by 5 data_length_place)
      (cond (bad_addresses s (variable_size s)) (refused_by 6 addresses_place)
      (cond (bad_integrity s (kind_of (flags_of s)) (field_place s)) (refused_by 7 (field_place s))
      (accepted (fields_of s)))))))))
  chain =
      in_front (too_short s) (least_rule s) 1 _ _ _ (of_judged _ _ _ (least_always s))
      (λ e1. let h = long e1 in
      in_front (wrong_version s) (version_rule s) 2 _ _ _ (of_judged _ _ _ (version_near s (omega arith)))
      (λ e2. in_front (bad_flags (flags_of s)) (flags_rule s) 3 _ _ _ (of_judged _ _ _ (flags_near s (omega arith)))
      (λ e3. in_front (bad_variable_size (variable_size s)) (variable_size_rule s) 4 _ _ _ (of_judged _ _ _ (size_near s (omega arith)))
      (λ e4. in_front (wrong_length s) (length_rule s) 5 _ _ _ (of_judged _ _ _ (length_near s (omega arith)))
      (λ e5. let w = whole e5 in
      in_front (bad_addresses s (variable_size s)) (addresses_rule s) 6 _ _ _ (addresses_say e4 w)
      (λ e6. in_front (bad_integrity s (kind_of (flags_of s)) (field_place s)) (integrity_rule s) 7 _ _ _ (of_judged _ _ _ (integrity_near s (omega (arith, announced_is s))))
      (λ e7. (refl, refl))))))))

-- ---- the theorems

pub readers_agree : ReadersAgree
readers_agree s = rw (reading_by_rules s) (chain s)

pub answers_agree : AnswersAgree
answers_agree s r j reads judges =
    subst (λ (v : RuleAnswers). Agree (broken_rules v) (told r)) (sym judges)
    (subst (λ (a : Answer). Agree (broken_rules (judging s)) a) (sym reads) (readers_agree s))

pub lowest_is_readings : LowestIsReadings
lowest_is_readings s r j l reads judges tells = tells ∙ (answers_agree s r j reads judges).1
