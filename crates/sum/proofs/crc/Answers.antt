-- `sum::crc` answers the sum: the state after all bytes, inverted.
use mathlib.Core.Path.{◌∙◌, ap}
use Prim.Native.Nat.{ℕ}
use lib.Bits.{bit_xor}
use lib.Dec.{lit<}
use Rattle.sum.specs.Crc.{all_ones, crc32}
use Rattle.sum.proofs.Sums.{state_after_lt}
use Rattle.sum.proofs.crc.Goals as goal

pub by_bytes-state-requires : goal.by_bytes-state-requires
by_bytes-state-requires c =
    let leads = c.by_halves-halves.ensures ∙ c.by_words-words.ensures in
    rw leads (state_after_lt c.args.bytes.now all_ones (λ k. (c.type_inv.bytes k).fits) (lit< tt))

pub returns : goal.returns
unfolding crc32
returns c =
    let leads = c.by_bytes-state.ensures ∙ c.by_halves-halves.ensures ∙ c.by_words-words.ensures in
    ap (λ (s : ℕ). bit_xor s all_ones) leads
