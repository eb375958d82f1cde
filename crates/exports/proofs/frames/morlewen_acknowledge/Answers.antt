-- `frames::morlewen_acknowledge`: the promise of `acknowledge`, told in a word.
use mathlib.Core.Path.{sym, subst}
use Rattle.exports.proofs.FitsLaws.{acknowledge_fits}
use Rattle.exports.specs.Word.{FitsWord}
use Rattle.exports.proofs.frames.morlewen_acknowledge.Goals as goal

pub word-requires : goal.word-requires
word-requires c = subst FitsWord (sym c.wrap_slots.ensures) (acknowledge_fits _ _ _ _ c.acknowledge.ensures.0)
