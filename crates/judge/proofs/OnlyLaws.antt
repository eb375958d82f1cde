-- One answer alone keeps each promise of the judge: what it is told as can be told back.
-- `untold` undoes `told`, case by case.
use Rattle.std.specs.Prelude.{Option, Some, None}
use mathlib.Core.List.{List}
use mathlib.Core.Path.{◌≡◌, refl, ap, sym, ◌∙◌}
use Prim.Native.Nat.{ℕ}
use Rattle.sum.specs.Promise.{Only₁}
use Rattle.sum.proofs.Laws.{only_by_telling}
use Rattle.envelope.proofs.OnlyLaws.{untold_refusal, untold_refusal_lem}
use Rattle.envelope.specs.declared.reader.Refusal.{Refusal}
use Rattle.judge.specs.Division.{Divides}
use Rattle.judge.specs.Rules.{RuleAnswer, kept, broken, not_judged, RuleAnswers, judging, broken_rules, LowestAnswer, none_broken, lowest, lowest_of}
use Rattle.judge.specs.Told.{told_verdict, told_judging, told_lowest, Judges, TellsLowest}
use Rattle.judge.specs.declared.judging.Judging.{Judging}
use Rattle.judge.specs.declared.judging.Verdict.{Verdict}
use Rattle.judge.specs.declared.judging.Verdict.TheVariants.{Kept, Broken, NotJudged}

pub only_divides : (bytes : List ℕ) → Only₁ (Divides bytes)
only_divides bytes a b p q = p ∙ sym q

abbrev untold_verdict : RuleAnswer → Verdict
untold_verdict kept = Kept
untold_verdict (broken place) = Broken place
untold_verdict not_judged = NotJudged

untold_verdict_lem : (v : Verdict) → untold_verdict (told_verdict v) ≡ v
untold_verdict_lem Kept = refl
untold_verdict_lem (Broken place) = refl
untold_verdict_lem NotJudged = refl

abbrev untold_judging : RuleAnswers → Judging
untold_judging j =
    record {
      least = untold_verdict j.least;
      version = untold_verdict j.version;
      flags = untold_verdict j.flags;
      variable_size = untold_verdict j.variable_size;
      length = untold_verdict j.length;
      addresses = untold_verdict j.addresses;
      integrity = untold_verdict j.integrity;
    }

untold_judging_lem : (j : Judging) → untold_judging (told_judging j) ≡ j
untold_judging_lem j =
    λ i. record {
      least = untold_verdict_lem j.least i;
      version = untold_verdict_lem j.version i;
      flags = untold_verdict_lem j.flags i;
      variable_size = untold_verdict_lem j.variable_size i;
      length = untold_verdict_lem j.length i;
      addresses = untold_verdict_lem j.addresses i;
      integrity = untold_verdict_lem j.integrity i;
    }

pub only_judges : (bytes : List ℕ) → Only₁ (Judges bytes)
only_judges bytes = only_by_telling told_judging untold_judging untold_judging_lem (judging bytes)

abbrev untold_lowest : LowestAnswer → Option Refusal
untold_lowest none_broken = None
untold_lowest (lowest r) = Some (untold_refusal r)

untold_lowest_lem : (l : Option Refusal) → untold_lowest (told_lowest l) ≡ l
untold_lowest_lem None = refl
untold_lowest_lem (Some r) = ap Some (untold_refusal_lem r)

pub only_tells_lowest : (j : Judging) → Only₁ (TellsLowest j)
only_tells_lowest j = only_by_telling told_lowest untold_lowest untold_lowest_lem (lowest_of (broken_rules (told_judging j)))
