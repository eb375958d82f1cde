-- `frames::morlewen_wrap`: the promise of `wrap`, told in a word.
use mathlib.Core.Path.{sym, subst}
use Rattle.exports.proofs.FitsLaws.{wrap_fits}
use Rattle.exports.specs.Word.{FitsWord}
use Rattle.exports.proofs.frames.morlewen_wrap.Goals as goal

pub word-requires : goal.word-requires
word-requires c = subst FitsWord (sym c.wrap_slots.ensures) (wrap_fits _ _ _ _ (λ k. (c.type_inv.message k).fits) c.wrap.ensures.0)
