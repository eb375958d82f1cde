-- `filler::lay`: the copy is the part laid in byte by byte.
use mathlib.Core.Path.{refl}
use native.Mathlib.Omega.{arith}
use Rattle.feed.proofs.LaidLaws.{laid_copy}
use Rattle.feed.proofs.filler.lay.Goals as goal

pub returns : goal.returns
returns c =
    laid_copy c.args.kept.now c.args.part.now _ c.args.place _ (omega (arith, c.told-kept, c.requires)) refl c.copy_from_slice.ensures.after
