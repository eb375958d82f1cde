-- Both round trips, as specs/RoundTrips states them, and that accepted bytes are fixed by what is handed out of them.
-- The work is in proofs/WrittenLaws and proofs/RebuiltLaws.
use Rattle.std.proofs.Common.{◌≡◌, ℕ, cond, ltb, List, length, take, drop, sym, ap, ◌∙◌, le-ltb}
use lib.Seq.{take-append_seam}
use Rattle.sum.specs.Detection.{Bytes}
use Rattle.envelope.specs.Fields.{Fields, accepted}
use Rattle.envelope.specs.Message.{message}
use Rattle.envelope.specs.Reading.{reading}
use Rattle.envelope.specs.Told.{told_envelope}
use Rattle.envelope.specs.RoundTrips.{given_by, WrittenThenRead, WrittenBufferThenRead, ReadThenWritten, SameFieldsSameBytes, WrittenThenHandedOut, HandedOutThenWritten}
use Rattle.envelope.specs.Writing.{WriteOutcome, written, refused, writing, after_writing, wrote, answer_to_writing}
use Rattle.envelope.proofs.ReadingLaws.{good}
use Rattle.envelope.proofs.RebuiltLaws.{rebuilt, again_kept}
use Rattle.envelope.proofs.WriteLaws.{wrote_kept, kept_written, four_writing}
use Rattle.envelope.proofs.WrittenLaws.{reads_as}

same_message : (l m : List ℕ) → written l ≡ written m → l ≡ m
same_message l m e = cc

pub written_then_read : WrittenThenRead
written_then_read g room m e =
    let k = wrote_kept g room (length m) (sym (ap answer_to_writing e)) in
    rw (← same_message (message g) m (sym (kept_written g room k) ∙ e)) (reads_as g room k)

same_length : (m n : ℕ) → wrote m ≡ wrote n → m ≡ n
same_length m n e = cc

pub written_buffer_then_read : WrittenBufferThenRead
written_buffer_then_read g entry exit r n w e =
    let k = wrote_kept g (length entry) n (sym e ∙ w.0) in
    let d = kept_written g (length entry) k in
    let size : n ≡ length (message g) = same_length n _ (sym e ∙ w.0 ∙ ap answer_to_writing d) in
    let front : take n exit ≡ message g =
    (λ i. take (size i) ((w.1 ∙ ap (λ (o : WriteOutcome). after_writing o entry) d) i))
    ∙ take-append_seam (message g) (drop (length (message g)) entry) in
    rw front (reads_as g (length entry) k)

-- what is handed out of accepted bytes makes those bytes
pub rebuilds : (s : List ℕ) (f : Fields) → Bytes s → reading s ≡ accepted f → message (given_by s f) ≡ s
rebuilds s f bytes e = let g = good s f e in rw g.fields (rebuilt s bytes f g)

-- writing them again is refused for want of room alone
pub written_again : (s : List ℕ) (f : Fields) (room : ℕ) → Bytes s → reading s ≡ accepted f
    → writing (given_by s f) room ≡ cond (ltb room (length s)) (refused 15) (written s)
written_again s f room bytes e =
    let g = good s f e in
    rw g.fields
    (four_writing _ room (again_kept s bytes f g)
    ∙ ap (λ (m : List ℕ). cond (ltb room (length m)) (refused 15) (written m)) (rebuilt s bytes f g))

pub read_then_written : ReadThenWritten
read_then_written s f room bytes e h = written_again s f room bytes e ∙ rw (le-ltb room (length s) h)

-- ---- of the functions' own answers

pub written_then_handed_out : WrittenThenHandedOut
written_then_handed_out g entry exit w n r p e h =
    let k = written_buffer_then_read g entry exit w n p e in
    record { fields = k.fields; tells = h ∙ k.accepts; same = k.same }

pub handed_out_then_written : HandedOutThenWritten
handed_out_then_written s e entry exit w bytes h room p =
    let d = read_then_written s (told_envelope e) (length entry) bytes (sym h) room in
    (p.0 ∙ ap answer_to_writing d, p.1 ∙ ap (λ (o : WriteOutcome). after_writing o entry) d)

pub same_fields_same_bytes : SameFieldsSameBytes
same_fields_same_bytes s t f bs bt es et same = sym (rebuilds s f bs es) ∙ ap message same ∙ rebuilds t f bt et
