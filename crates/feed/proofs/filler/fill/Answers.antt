-- `filler::fill`: the rest does not reach what was announced, or it does.
use mathlib.Core.List.{List}
use mathlib.Core.Path.{◌≡◌, ap, ◌∙◌}
use Prim.Native.Nat.{ℕ, ◌+◌}
use native.Mathlib.Omega.{arith}
use lib.ListN.{length, take}
use lib.Seq.{length-take-le, sets, take_all}
use Rattle.envelope.specs.Reading.{reading}
use Rattle.feed.specs.Feeding.{closing}
use Rattle.feed.specs.Verdict.{more, Verdict, settled}
use Rattle.feed.proofs.BulkLaws.{known, fill_short, fill_all}
use Rattle.feed.proofs.TakingLaws.{Known}
use Rattle.feed.proofs.filler.fill.Goals as goal
use Rattle.feed.proofs.filler.fill.Goals.{After-min, Start}

known_at : (s : Start) → Known s.args.whole s.args.kept.now s.args.count
known_at s = known s.args.kept.now s.args.count s.args.whole s.args.used s.told-kept s.requires

-- how long the part is
size : (c : After-min) → length (take c.min.result c.args.rest.now) ≡ c.min.result
size c = length-take-le c.min.result c.args.rest.now (omega arith)

pub returns-then-in_all-whole : goal.returns-then-in_all-whole
returns-then-in_all-whole c =
    let at = goal.at.returns-then-in_all-whole c in
    let part = take c.min.result c.args.rest.now in
    let all : part ≡ c.args.rest.now = take_all c.min.result c.args.rest.now (omega (arith, size at.After-min)) in
    c.settled.ensures c.lay.new.kept
    ∙ ap (λ (g : List ℕ). closing more g (c.args.count + length part) (c.args.used + length part)) c.lay.ensures
    ∙ ap (λ (p : List ℕ). closing more (sets c.args.kept.now c.args.count p) (c.args.count + length p) (c.args.used + length p)) all
    ∙ fill_short c.args.kept.now c.args.rest.now c.args.count c.args.whole c.args.used (known_at at.Start) c.requires.short (omega (arith, size at.After-min))

pub returns : goal.returns
returns c =
    let at = goal.at.returns c in
    let d = c.min.result in
    let part = take d c.args.rest.now in
    c.settled-2.ensures c.lay.new.kept
    ∙ ap (λ (v : Verdict). closing v c.lay.new.kept (c.args.count + length part) (c.args.used + length part)) c.judged.ensures
    ∙ ap (λ (m : ℕ). closing (settled (reading (take (c.args.count + m) c.lay.new.kept))) c.lay.new.kept (c.args.count + m) (c.args.used + m)) (size at.After-min)
    ∙ ap (λ (g : List ℕ). closing (settled (reading (take (c.args.count + d) g))) g (c.args.count + d) (c.args.used + d)) c.lay.ensures
    ∙ fill_all c.args.kept.now c.args.rest.now c.args.count c.args.whole d c.args.used (known_at at.Start) c.requires.short (omega (arith, c.told-kept)) (omega (arith, size at.After-min)) (omega arith)
