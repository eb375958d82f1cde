-- `layout::source_size`: the part that is sliced is the region, and no longer than V.
use mathlib.Core.Path.{ap, ◌∙◌}
use Prim.Native.Nat.{ℕ, ◌-◌}
use native.Mathlib.Omega.{arith}
use lib.ListN.{length, take, drop, length-take}
use Rattle.envelope.proofs.ZeroLaws.{first_zero_most}
use Rattle.envelope.specs.Addresses.{first_zero}
use Rattle.envelope.specs.Layout.{routing_size, addresses_place}
use Rattle.layout.proofs.layout.source_size.Goals as goal

pub returns : goal.returns
returns c =
    let s = c.args.message.now in
    let size = c.saturating_sub.ensures ∙ ap (λ (v : ℕ). v - routing_size) c.from.ensures in
    let region = c.slice.ensures ∙ ap (λ (n : ℕ). take n (drop addresses_place s)) size in
    let few = length-take (c.args.v - routing_size) (drop addresses_place s) in
    (c.first_zero.ensures ∙ ap first_zero region, omega (arith, c.first_zero.ensures, first_zero_most c.slice.result.now, ap length region, few, c.ranges.v.fits))
