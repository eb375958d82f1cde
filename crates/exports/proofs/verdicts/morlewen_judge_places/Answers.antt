-- `verdicts::morlewen_judge_places`: as `morlewen_judge`, with the places of the broken rules in seven numbers more.
use mathlib.Core.Path.{ap, ◌∙◌, sym, subst}
use Rattle.judge.specs.Rules.{RuleAnswers, broken_rules, lowest_of}
use Rattle.exports.proofs.VerdictLaws.{lowest_fits}
use Rattle.exports.specs.Word.{FitsWord}
use Rattle.exports.proofs.verdicts.morlewen_judge_places.Goals as goal

pub word-requires : goal.word-requires
word-requires c =
    let judges = c.judge-judging.ensures in
    subst FitsWord (sym c.lowest_slots.ensures) (lowest_fits _ _ (λ k. (c.type_inv.bytes k).fits) (c.lowest.ensures ∙ ap (λ (j : RuleAnswers). lowest_of (broken_rules j)) judges))
