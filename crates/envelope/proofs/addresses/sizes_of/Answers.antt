-- `addresses::sizes_of` looks for two addresses, each closed by the first zero that is left: each refusal is a scan that fails.
use Rattle.std.proofs.Common.{refl, ◌∙◌, arith}
use Rattle.envelope.proofs.AddressLaws.{not_two, destination_is, two_by_length}
use Rattle.envelope.proofs.addresses.sizes_of.Goals as goal

pub returns-in_err-source : goal.returns-in_err-source
returns-in_err-source c =
    let t = c.args.region.now in
    rw (c.from_residual.ensures, not_two t (λ h. c.in_err-source.ensures (refl, h.source, omega (arith, h.whole))))

pub returns-in_err-destination : goal.returns-in_err-destination
returns-in_err-destination c =
    let t = c.args.region.now in
    let source = c.in_ok-source.ensures in
    let d = destination_is t _ _ source.0 refl in
    rw (c.from_residual-in_err-destination.ensures, not_two t (λ h. c.in_err-destination.ensures (refl, omega (arith, h.destination), omega (arith, h.whole))))

pub returns : goal.returns
returns c =
    let t = c.args.region.now in
    let source = c.in_ok-source.ensures in
    let destination = c.in_ok-destination.ensures in
    c.then_some.ensures ∙ two_by_length t _ _ source.0 source.1 (destination_is t _ _ source.0 destination.0) destination.1
