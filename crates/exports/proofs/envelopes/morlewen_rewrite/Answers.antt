-- `envelopes::morlewen_rewrite`: the promise of `rewrite`, told in a word.
use mathlib.Core.Path.{sym, subst}
use Rattle.exports.proofs.FitsLaws.{rewrite_fits}
use Rattle.exports.specs.Word.{FitsWord}
use Rattle.exports.proofs.envelopes.morlewen_rewrite.Goals as goal

pub word-requires : goal.word-requires
word-requires c = subst FitsWord (sym c.rewrite_slots.ensures) (rewrite_fits _ _ _ (λ k. (c.type_inv.bytes k).fits) c.rewrite.ensures.0)
