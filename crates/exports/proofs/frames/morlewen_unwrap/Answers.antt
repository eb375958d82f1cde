-- `frames::morlewen_unwrap`: the promise of `unwrap`, told in a word, in two numbers and in sixteen.
use mathlib.Core.Path.{sym, subst}
use Rattle.exports.proofs.FitsLaws.{unwrap_fits}
use Rattle.exports.specs.Word.{FitsWord}
use Rattle.exports.proofs.frames.morlewen_unwrap.Goals as goal

pub word-requires : goal.word-requires
word-requires c = subst FitsWord (sym c.unwrap_slots.ensures) (unwrap_fits _ _ (λ k. (c.type_inv.bytes k).fits) c.unwrap-unwrapped.ensures)
