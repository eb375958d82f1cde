-- `goldens::morlewen_records`: the promise of `count`, told in a word.
use mathlib.Core.Path.{sym, subst}
use Rattle.exports.proofs.FitsLaws.{count_fits}
use Rattle.exports.specs.Word.{FitsWord}
use Rattle.exports.proofs.goldens.morlewen_records.Goals as goal

pub word-requires : goal.word-requires
word-requires c = subst FitsWord (sym c.count_slots.ensures) (count_fits _ _ c.count.ensures)
