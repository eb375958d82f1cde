-- `goldens::morlewen_retire`: the promise of `retire`, told in a word; the buffer is the library's own.
use mathlib.Core.Path.{sym, subst}
use Rattle.exports.proofs.FitsLaws.{retire_fits}
use Rattle.exports.specs.Word.{FitsWord}
use Rattle.exports.proofs.goldens.morlewen_retire.Goals as goal

pub word-requires : goal.word-requires
word-requires c = subst FitsWord (sym c.made_slots.ensures.1) (retire_fits _ _ _ _ c.retire.ensures.0)
