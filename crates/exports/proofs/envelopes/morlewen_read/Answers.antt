-- `envelopes::morlewen_read`: the promise of `read`, told in a word and in sixteen numbers.
use mathlib.Core.Path.{sym, subst}
use Rattle.exports.proofs.FitsLaws.{read_fits}
use Rattle.exports.specs.Word.{FitsWord}
use Rattle.exports.proofs.envelopes.morlewen_read.Goals as goal

pub word-requires : goal.word-requires
word-requires c = subst FitsWord (sym c.read_slots.ensures) (read_fits _ _ (λ k. (c.type_inv.bytes k).fits) c.read-reading.ensures)
