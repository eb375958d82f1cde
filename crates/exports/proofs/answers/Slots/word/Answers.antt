-- `answers::Slots::word`: four slots that fit make a word.
use native.Mathlib.Omega.{arith}
use Rattle.exports.specs.Word.{word}
use Rattle.exports.proofs.answers.Slots.word.Goals as goal

pub returns : goal.returns
unfolding word
returns c = omega (arith, c.from.ensures, c.from-2.ensures)
