-- `sum::bits_step`: the bits shifted out of both words, and what their steps leave added.
use mathlib.Core.Path.{◌∙◌, ap}
use Prim.Native.Nat.{ℕ, ◌-◌, ◌*◌, ◌%◌, ◌^◌, ◌<◌}
use borrow.Author.Rules.{rules}
use lib.Bits.{bit_xor}
use Rattle.sum.specs.Crc.{bit_steps}
use Rattle.sum.proofs.Stages.{few_taken}
use Rattle.sum.proofs.bits_step.Goals as goal

pub returns : goal.returns
returns g c n room =
    let bits = g.row.BITS in
    let p = c.args.pending in
    let word_lt : p.word < 2 ^ 64 = search rules in
    let left = c.from-2.ensures ∙ c.settle-left.ensures
    ∙ ap (λ (b : ℕ). bit_steps 32 ((bit_xor p.word b * 2 ^ (32 - bits)) % 2 ^ 64 % 2 ^ 32)) c.from.ensures in
    few_taken bits n p.word p.after c.args.bits c.from-2.result c.requires.few.1 word_lt c.requires.fits c.from-2.type_inv left
