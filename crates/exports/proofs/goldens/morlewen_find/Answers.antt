-- `goldens::morlewen_find`: the promise of `find`, told in a word.
use mathlib.Core.Path.{sym, subst}
use Rattle.exports.proofs.FitsLaws.{find_fits}
use Rattle.exports.specs.Word.{FitsWord}
use Rattle.exports.proofs.goldens.morlewen_find.Goals as goal

pub word-requires : goal.word-requires
word-requires c = subst FitsWord (sym c.find_slots.ensures) (find_fits _ _ _ c.find.ensures)
