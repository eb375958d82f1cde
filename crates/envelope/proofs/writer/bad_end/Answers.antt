-- `writer::bad_end`: short enough, and so bad by a zero alone, of which an empty one has none.
use Rattle.std.proofs.Common.{◌≡◌, [], refl, sym, ◌∙◌}
use Rattle.std.proofs.lemmas.List.{nil_from_length}
use borrow.Author.Tests.{eqb-true, lt-leb}
use Rattle.envelope.proofs.ZeroLaws.{zero_contained}
use Rattle.envelope.specs.Writing.{bad_end, has_zero}
use Rattle.envelope.proofs.writer.bad_end.Goals as goal

pub returns-then-not-is_empty : goal.returns-then-not-is_empty
unfolding bad_end
returns-then-not-is_empty c =
    rw (lt-leb _ _ c.if-end-ge-LARGEST_ADDRESS.false, ← zero_contained c.args.end.now) c.contains.ensures.value

pub returns-else-not-is_empty : goal.returns-else-not-is_empty
unfolding bad_end has_zero
returns-else-not-is_empty c =
    let none : c.args.end.now ≡ [] = nil_from_length _ (eqb-true _ _ (sym c.is_empty.ensures ∙ c.if-not-is_empty.false)) in
    rw (none, c.if-not-is_empty.false) refl
