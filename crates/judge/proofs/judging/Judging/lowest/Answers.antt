-- `judging::Judging::lowest`: rule by rule from the first, each answering where it is broken.
use Rattle.judge.proofs.LowestLaws.{first_rule, next_rule, all_rules}
use Rattle.judge.proofs.judging.Judging.lowest.Goals as goal

pub returns : goal.returns
returns c =
    let j = c.args.self in
    all_rules _ _
    (next_rule j.integrity _ _ c.refused_as-7.ensures _ _ _
    (next_rule j.addresses _ _ c.refused_as-6.ensures _ _ _
    (next_rule j.length _ _ c.refused_as-5.ensures _ _ _
    (next_rule j.variable_size _ _ c.refused_as-4.ensures _ _ _
    (next_rule j.flags _ _ c.refused_as-3.ensures _ _ _
    (next_rule j.version _ _ c.refused_as-2.ensures _ _ _
    (first_rule j.least _ _ c.refused_as.ensures)
    c.or.ensures) c.or-2.ensures) c.or-3.ensures) c.or-4.ensures) c.or-5.ensures) c.or-6.ensures)
