-- `rules::first_zero` is where the library finds the first zero, or the end where there is none.
use Rattle.std.proofs.Common.{eqb, rules, tests}
use Rattle.std.proofs.lemmas.Iterator.{YieldsList-from_slice}
use Rattle.std.proofs.lemmas.Iterator.Search.{position_from_yields_List}
use Rattle.envelope.proofs.ZeroLaws.{first_zero_found}
use Rattle.judge.proofs.rules.first_zero.Goals as goal

pub returns : goal.returns
returns c =
    let s = c.args.bytes.now in
    let p = position_from_yields_List (λ b. eqb b 0) _ _ _ c.position.ensures.ran (YieldsList-from_slice s cc) (λ x b q k. search (rules, tests)) in
    rw (c.unwrap_or.ensures, p) (first_zero_found s)
