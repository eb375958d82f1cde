-- `verdicts::morlewen_judge`: the promises of `judge` and `lowest`, told in a word and in seven numbers.
use mathlib.Core.Path.{ap, ◌∙◌, sym, subst}
use Rattle.judge.specs.Rules.{RuleAnswers, broken_rules, lowest_of}
use Rattle.exports.proofs.VerdictLaws.{lowest_fits}
use Rattle.exports.specs.Word.{FitsWord}
use Rattle.exports.proofs.verdicts.morlewen_judge.Goals as goal

pub word-requires : goal.word-requires
word-requires c =
    let judges = c.judge-judging.ensures in
    subst FitsWord (sym c.lowest_slots.ensures) (lowest_fits _ _ (λ k. (c.type_inv.bytes k).fits) (c.lowest.ensures ∙ ap (λ (j : RuleAnswers). lowest_of (broken_rules j)) judges))
