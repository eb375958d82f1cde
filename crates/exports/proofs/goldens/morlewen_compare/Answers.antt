-- `goldens::morlewen_compare`: the promise of `compare`, told in a word; the list is the library's own.
use mathlib.Core.Path.{sym, subst}
use Rattle.exports.proofs.FitsLaws.{compare_fits}
use Rattle.exports.specs.Word.{FitsWord}
use Rattle.exports.proofs.goldens.morlewen_compare.Goals as goal

pub word-requires : goal.word-requires
word-requires c = subst FitsWord (sym c.compare_slots.ensures) (compare_fits _ _ _ _ (λ k. (c.type_inv.radio k).fits) c.compare.ensures.0)
