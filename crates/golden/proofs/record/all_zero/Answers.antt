-- `record::all_zero`: whether every byte is zero.
use Rattle.std.proofs.Common.{rules, tests, eqb}
use Rattle.std.proofs.lemmas.Iterator.{YieldsList-from_slice}
use Rattle.std.proofs.lemmas.Iterator.Search.{all_from_yields_List}
use Rattle.golden.specs.Record.{all_zero}
use Rattle.golden.proofs.record.all_zero.Goals as goal

pub returns : goal.returns
unfolding all_zero
returns c =
    let a = all_from_yields_List (λ x. eqb x 0) _ _ _ c.all.ensures.ran (YieldsList-from_slice c.args.bytes.now cc) (λ x b q k. search (rules, tests)) in
    a
