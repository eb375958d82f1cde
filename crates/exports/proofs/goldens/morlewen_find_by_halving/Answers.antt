-- `goldens::morlewen_find_by_halving`: the promise of `find_by_halving`, told in a word.
use mathlib.Core.Path.{sym, subst}
use Rattle.exports.proofs.FitsLaws.{halving_fits}
use Rattle.exports.specs.Word.{FitsWord}
use Rattle.exports.proofs.goldens.morlewen_find_by_halving.Goals as goal

pub word-requires : goal.word-requires
word-requires c = subst FitsWord (sym c.find_slots.ensures) (halving_fits _ _ _ c.find_by_halving.ensures)
