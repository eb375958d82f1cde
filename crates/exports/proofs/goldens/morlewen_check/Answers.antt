-- `goldens::morlewen_check`: the promise of `check`, told in a word.
use mathlib.Core.Path.{sym, subst}
use Rattle.exports.proofs.FitsLaws.{check_fits}
use Rattle.exports.specs.Word.{FitsWord}
use Rattle.exports.proofs.goldens.morlewen_check.Goals as goal

pub word-requires : goal.word-requires
word-requires c = subst FitsWord (sym c.check_slots.ensures) (check_fits _ _ c.check.ensures)
