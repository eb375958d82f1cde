-- `rules::bad_integrity`: what division finds is the sum, since bytes are below 256.
use mathlib.Core.Bool.{not}
use mathlib.Core.Path.{sym, ap, ap₂, ◌∙◌}
use Prim.Native.Nat.{ℕ}
use lib.Dec.{eqb}
use lib.ListN.{take}
use Rattle.sum.proofs.Laws.{bytes_take}
use Rattle.sum.specs.Detection.{Bytes}
use Rattle.envelope.proofs.RuleLaws.{four_at_is, integrity_crc}
use Rattle.envelope.specs.Flags.{told_kind}
use Rattle.judge.proofs.DivisionLaws.{divided_is_crc}
use Rattle.judge.proofs.rules.bad_integrity.Goals as goal

pub returns-in-Crc : goal.returns-in-Crc
returns-in-Crc c =
    let s = c.args.bytes.now in
    let place = c.args.place in
    let bytes : Bytes s = λ i. (c.type_inv.bytes i).fits in
    let held = c.four_bytes-held.ensures ∙ sym (four_at_is s place) in
    let sum = c.divide.ensures ∙ divided_is_crc (take place s) (bytes_take place s bytes) in
    ap₂ (λ (x y : ℕ). not (eqb x y)) held sum ∙ sym (integrity_crc s _ place (ap told_kind c.in-Crc.is))
