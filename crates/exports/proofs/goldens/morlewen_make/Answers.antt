-- `goldens::morlewen_make`: the promise of `make`, told in a word; the buffer is the library's own.
use mathlib.Core.Path.{sym, subst}
use Rattle.exports.proofs.FitsLaws.{make_fits}
use Rattle.exports.specs.Word.{FitsWord}
use Rattle.exports.proofs.goldens.morlewen_make.Goals as goal

pub word-requires : goal.word-requires
word-requires c = subst FitsWord (sym c.made_slots.ensures.0) (make_fits _ _ _ c.make.ensures.0)
