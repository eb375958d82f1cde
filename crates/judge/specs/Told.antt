-- The paper's answer for each case of the code's, and what `judge` and `Judging::lowest` promise.
-- The order of the rules is that of the table of reading.
use Rattle.std.specs.Prelude.{List, ◌≡◌, ℕ, Option, Some, None}
use Rattle.envelope.specs.Told.{told_refusal}
use Rattle.envelope.specs.declared.reader.Refusal.{Refusal}
use Rattle.judge.specs.Rules.{RuleAnswer, kept, broken, not_judged, RuleAnswers, judging, broken_rules, LowestAnswer, none_broken, lowest, lowest_of}
use Rattle.judge.specs.declared.judging.Judging.{Judging}
use Rattle.judge.specs.declared.judging.Verdict.{Verdict}
use Rattle.judge.specs.declared.judging.Verdict.TheVariants.{Kept, Broken, NotJudged}

abbrev pub told_verdict : Verdict → RuleAnswer
told_verdict Kept = kept
told_verdict (Broken place) = broken place
told_verdict NotJudged = not_judged

abbrev pub told_judging : Judging → RuleAnswers
told_judging j =
    record {
      least = told_verdict j.least;
      version = told_verdict j.version;
      flags = told_verdict j.flags;
      variable_size = told_verdict j.variable_size;
      length = told_verdict j.length;
      addresses = told_verdict j.addresses;
      integrity = told_verdict j.integrity;
    }

-- what `judge` promises
abbrev pub Judges : List ℕ → Judging → Type 0
Judges bytes r = told_judging r ≡ judging bytes

abbrev pub told_lowest : Option Refusal → LowestAnswer
told_lowest None = none_broken
told_lowest (Some r) = lowest (told_refusal r)

-- what `Judging::lowest` promises: the broken rule with the lowest number, as reading refuses it
abbrev pub TellsLowest : Judging → Option Refusal → Type 0
TellsLowest j r = told_lowest r ≡ lowest_of (broken_rules (told_judging j))
