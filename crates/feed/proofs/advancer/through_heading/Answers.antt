-- `advancer::through_heading`: the first stretch, what it announces, and the second stretch.
use mathlib.Core.List.{List}
use mathlib.Core.Path.{◌≡◌, ap, sym, ◌∙◌}
use Prim.Native.Nat.{ℕ, ◌+◌, ◌-◌, ◌≤◌}
use native.Mathlib.Omega.{arith}
use lib.ListN.{length, drop, length-drop}
use lib.Seq.{length-take-le, take_all}
use Rattle.envelope.proofs.AnnouncingLaws.{unfinished_short}
use Rattle.feed.specs.Feeding.{taking}
use Rattle.feed.specs.Helpers.{opened, outcome_at}
use Rattle.feed.proofs.BulkLaws.{bad_at, more_at, stretch_fits, first_stretch, none_left}
use Rattle.feed.proofs.VerdictLaws.{verdict_by}
use Rattle.feed.proofs.advancer.through_heading.Goals as goal
use Rattle.feed.proofs.advancer.through_heading.Goals.{After-lay}

enough : (c : After-lay) → c.args.count + c.stretch-first.result ≤ length c.lay.new.kept
enough c = omega (arith, stretch_fits _ _ _ c.requires.0 c.stretch-first.ensures, c.lay.array_long)

-- the bytes of the first stretch are in
grown : (c : After-lay) →
    let first = c.stretch-first.result in
    taking (opened c.args.kept.now c.args.count) c.args.piece.now
    ≡ outcome_at c.lay.new.kept (c.args.count + first) first (drop first c.args.piece.now)
grown c =
    let first = c.stretch-first.result in
    first_stretch c.args.kept.now c.args.piece.now c.args.count first c.told-kept c.requires.0 c.stretch-first.ensures
    ∙ ap (λ (g : List ℕ). outcome_at g (c.args.count + first) first (drop first c.args.piece.now)) (sym c.lay.ensures)

pub returns-in-Ok-Some : goal.returns-in-Ok-Some
returns-in-Ok-Some c =
    let piece = c.args.piece.now in
    let first = c.stretch-first.result in
    c.fill.ensures
    ∙ ap (λ (l : List ℕ). outcome_at c.lay.new.kept (c.args.count + first) first l)
    (take_all (length piece - first) (drop first piece) (omega (arith, length-drop first piece)))
    ∙ sym (grown (goal.at.returns-in-Ok-Some c).After-lay)

pub returns-in-Ok-None : goal.returns-in-Ok-None
returns-in-Ok-None c =
    let at = goal.at.returns-in-Ok-None c in
    let says = rw c.in-Ok-None.field-0-is at c.in-Ok-None.ensures in
    let size = length-take-le (c.args.count + c.stretch-first.result) c.lay.new.kept (enough at.After-lay) in
    c.settled.ensures c.lay.new.kept
    ∙ more_at c.lay.new.kept _ _ _ (verdict_by _ _ says) (none_left _ _ _ c.stretch-first.ensures (omega (arith, unfinished_short _ says, size)))
    ∙ sym (grown at.After-lay)

pub returns-in-Err : goal.returns-in-Err
returns-in-Err c =
    c.settled-in-Err.ensures c.lay.new.kept
    ∙ bad_at c.lay.new.kept _ _ _ _ c.in-Err.ensures
    ∙ sym (grown (goal.at.returns-in-Err c).After-lay)
