-- `writer::put`: the copy is the part, put in from its place; of an empty part nothing is put in.
use Rattle.std.proofs.Common.{◌≡◌, [], refl, sym, ◌∙◌, arith}
use Rattle.std.proofs.lemmas.List.{nil_from_length}
use Rattle.std.proofs.lemmas.Slice.{put_mid-paste}
use borrow.Author.Tests.{eqb-true}
use lib.Seq.{take-length}
use Rattle.envelope.proofs.PastedLaws.{pasted_none}
use Rattle.envelope.specs.Helpers.{pasted}
use Rattle.envelope.proofs.writer.put.Goals as goal

pub returns-then-is_empty : goal.returns-then-is_empty
returns-then-is_empty c =
    let none : c.args.part.now ≡ [] = nil_from_length _ (eqb-true _ _ (sym c.is_empty.ensures ∙ c.if-is_empty.true)) in
    rw none (omega arith, pasted_none c.args.buffer.now c.args.place)

pub returns : goal.returns
unfolding pasted
returns c =
    let part = c.args.part.now in
    (refl, put_mid-paste c.args.place _ c.args.buffer.now _ part _ c.copy_from_slice.ensures.after (omega arith) refl ∙ rw take-length)
