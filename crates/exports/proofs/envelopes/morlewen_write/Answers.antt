-- `envelopes::morlewen_write`: the promise of `write`, for what the numbers of the call give.
use mathlib.Core.Path.{sym, subst}
use Rattle.exports.proofs.FitsLaws.{write_fits}
use Rattle.exports.specs.Word.{FitsWord}
use Rattle.exports.proofs.envelopes.morlewen_write.Goals as goal

pub word-requires : goal.word-requires
word-requires c = subst FitsWord (sym c.write_slots.ensures) (write_fits _ _ _ c.write.ensures.0)
