-- `goldens::morlewen_line`: the promise of `entry_at`, told in a word and in three numbers.
use mathlib.Core.Path.{sym, subst}
use Rattle.exports.proofs.FitsLaws.{line_fits}
use Rattle.exports.specs.Word.{FitsWord}
use Rattle.exports.proofs.goldens.morlewen_line.Goals as goal

pub word-requires : goal.word-requires
word-requires c = subst FitsWord (sym c.line_slots.ensures) (line_fits _ _ _ c.entry_at-found.ensures)
