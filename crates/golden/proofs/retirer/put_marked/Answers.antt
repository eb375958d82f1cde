-- `retirer::put_marked` copies the file over the whole buffer, and sets one byte.
use native.Mathlib.Omega.{arith}
use lib.ListN.{length}
use Rattle.golden.proofs.MarkedLaws.{not_set_before}
use Rattle.golden.proofs.RetiringLaws.{Allowed, allowed, copied_marked}
use Rattle.golden.proofs.retirer.put_marked.Goals as goal
use Rattle.golden.proofs.retirer.put_marked.Goals.{Start}

-- what the answer `done` says
may : (start : Start) → Allowed start.args.file.now start.args.n (length start.args.buffer.now)
may start = allowed _ _ _ start.requires

pub copy_from_slice-requires : goal.copy_from_slice-requires
copy_from_slice-requires c = omega (arith, (may (goal.at.copy_from_slice-requires c).Start).fits)

pub overflow_mul-place : goal.overflow_mul-place
overflow_mul-place c = omega (arith, (may (goal.at.overflow_mul-place c).Start).there)

pub bounds-file-place : goal.bounds-file-place
bounds-file-place c = omega (arith, (may (goal.at.bounds-file-place c).Start).there)

pub overflow_add-buffer : goal.overflow_add-buffer
overflow_add-buffer c =
    let m = may (goal.at.overflow_add-buffer c).Start in
    omega (arith, not_set_before _ _ m.there _ m.live)

pub bounds-buffer-place : goal.bounds-buffer-place
bounds-buffer-place c =
    let m = may (goal.at.bounds-buffer-place c).Start in
    omega (arith, m.there, m.fits, c.copy_from_slice.auto)

pub returns : goal.returns
returns c =
    copied_marked c.args.file.now c.args.n _ c.copy_from_slice.ensures.after
