-- `goldens::morlewen_ascending`: the promise of `ascending`, told in a word.
use mathlib.Core.Path.{sym, subst}
use Rattle.exports.proofs.FitsLaws.{order_fits}
use Rattle.exports.specs.Word.{FitsWord}
use Rattle.exports.proofs.goldens.morlewen_ascending.Goals as goal

pub word-requires : goal.word-requires
word-requires c = subst FitsWord (sym c.order_slots.ensures) (order_fits _ _ c.ascending.ensures)
