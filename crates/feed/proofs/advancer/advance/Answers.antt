-- `advancer::advance`: nothing is used, or the bytes go in after those that are there.
use mathlib.Core.Path.{◌≡◌, ap, sym, ◌∙◌}
use Prim.Native.Nat.{ℕ, ◌<◌}
use native.Mathlib.Omega.{arith}
use lib.ListN.{length}
use Rattle.std.proofs.lemmas.Bool.{eqb-true, eqb-false}
use Rattle.feed.specs.Feeding.{State, FeedOutcome, still, taking}
use Rattle.feed.specs.Helpers.{opened}
use Rattle.feed.specs.Messages.{Few}
use Rattle.feed.specs.Places.{PointsShort}
use Rattle.feed.specs.Told.{state_of}
use Rattle.feed.specs.Verdict.{room}
use Rattle.feed.proofs.FewLaws.{uses_few}
use Rattle.feed.proofs.PlaceLaws.{take_points_short}
use Rattle.feed.proofs.StandLaws.{nothing_offered, shut_takes, open_takes}
use Rattle.feed.proofs.advancer.advance.Goals as goal
use Rattle.feed.proofs.advancer.advance.Goals.{Start, then-is_empty-via-then-is_empty, then-is_empty-via-else-is_empty+then-not-goes_on}

-- the state that is lent
abbrev lent : Start → State
lent s = state_of s.args.kept.now s.args.beside

-- what a call takes says the rest too
says : (c : Start) (o : FeedOutcome) → o ≡ taking (lent c) c.args.piece.now
    → (o ≡ taking (lent c) c.args.piece.now) × Few o × PointsShort (lent c) o
says c o takes =
    let full : length c.args.kept.now ≡ room = c.told-kept in
    (takes, uses_few (lent c) c.args.piece.now o full takes, take_points_short (lent c) c.args.piece.now o full takes)

pub returns-then-is_empty : goal.returns-then-is_empty
returns-then-is_empty c =
    let s = (goal.at.returns-then-is_empty c).Start in
    let none : still (lent s) ≡ taking (lent s) c.args.piece.now =
    elim c.then-is_empty.branch [
      | then-is_empty-via-then-is_empty w ↦ nothing_offered (lent s) c.args.piece.now (eqb-true _ _ (sym c.is_empty.ensures ∙ w.if-is_empty.true))
      | then-is_empty-via-else-is_empty+then-not-goes_on w ↦ shut_takes (lent s) c.args.piece.now (sym w.goes_on.ensures ∙ w.if-not-goes_on.true)
    ] in
    says s _ (c.stay.ensures c.args.kept.now ∙ none)

pub returns : goal.returns
returns c =
    let s = (goal.at.returns c).Start in
    let goes = sym c.goes_on.ensures ∙ c.if-not-goes_on.false in
    let some : 0 < length c.args.piece.now = omega (arith, eqb-false _ _ (sym c.is_empty.ensures ∙ c.if-is_empty.false)) in
    says s _
    (c.grow.ensures
    ∙ ap (λ (n : ℕ). taking (opened c.args.kept.now n) c.args.piece.now) c.begun.ensures.0
    ∙ open_takes (lent s) c.args.piece.now goes some)
