-- `wrapper::put_frame`: the header's bytes are as many as stand before the body.
use Rattle.std.proofs.Common.{length, ap, sym, ◌∙◌, arith, length-take-le}
use Rattle.frame.specs.Layout.{body_place}
use Rattle.frame.proofs.wrapper.put_frame.Goals as goal

pub slice_bounds-copy_from_slice-end-2 : goal.slice_bounds-copy_from_slice-end-2
slice_bounds-copy_from_slice-end-2 c = sym (length-take-le body_place c.args.buffer.now (omega arith))

pub copy_from_slice-requires : goal.copy_from_slice-requires
copy_from_slice-requires c = length-take-le body_place c.args.buffer.now (omega arith) ∙ sym (ap length c.header_digits-header.ensures)
