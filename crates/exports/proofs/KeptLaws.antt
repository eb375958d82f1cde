-- A refusal leaves what was lent as it was. Each answer that writes has the number 0 in its word.
use mathlib.Core.Bool.{Bool, true, false, cond}
use mathlib.Core.List.{List}
use mathlib.Core.Path.{◌≡◌, refl, ap, ◌∙◌}
use Prim.Native.Nat.{ℕ, ◌-◌, ◌%◌}
use native.Mathlib.Omega.{arith}
use lib.Dec.{eqb}
use lib.ListN.{length}
use Rattle.envelope.specs.Fields.{Answer, accepted, refused}
use Rattle.envelope.specs.Reading.{reading}
use Rattle.envelope.specs.Rewriting.{RewriteAnswer, rewrote, refused, no_room, rewriting, after_rewriting}
use Rattle.envelope.specs.Writing as write
use Rattle.feed.specs.Feeding.{Finding, nothing, message, refused}
use Rattle.frame.specs.Unwrapping.{UnwrapAnswer, unwrapping}
use Rattle.frame.specs.Unwrapping as unwrap
use Rattle.frame.specs.Wrapping.{wrapping, acknowledging}
use Rattle.frame.specs.Wrapping as wrap
use Rattle.golden.specs.Comparing.{comparing, after_comparing}
use Rattle.golden.specs.Comparing as compare
use Rattle.golden.specs.Listing.{EntryAnswer, line, refused, entry_at}
use Rattle.golden.specs.Making.{MakeAnswer, made, making}
use Rattle.golden.specs.Making as make
use Rattle.golden.specs.Retiring.{RetireAnswer, retiring}
use Rattle.golden.specs.Retiring as retire
use Rattle.golden.specs.Stepping.{StepAnswer, end, step_at, next_after}
use Rattle.golden.specs.Stepping as step
use Rattle.exports.specs.Envelopes.{read_slots, fields_after, write_slots, rewrite_slots}
use Rattle.exports.specs.Feeds.{Lent, found_slots, fields_found, taking_for}
use Rattle.exports.specs.Frames.{FrameLent, unwrap_slots, lent_after_unwrapping, WritesFrameForC}
use Rattle.exports.specs.Goldens.{line_slots, line_after, step_slots, part_after, compare_slots, make_slots, retire_slots}
use Rattle.exports.specs.Kept.{IsRefusal, KeptOnRefusal, ReadKeeps, WriteKeeps, RewriteKeeps, LineKeeps, StepKeeps, CompareKeeps, MakeKeeps, RetireKeeps, UnwrapKeeps, WrapKeeps, AcknowledgeKeeps, TakeKeepsFields, EventKeeps, StartKeeps}
use Rattle.exports.specs.Senders.{reply_slots, numbers_after, SenderLent, sender_lent, sender_for, start_slots, start_numbers}
use Rattle.exports.specs.Word.{Slots, word}
use Rattle.sender.specs.Queue.{Queue, Event, Outcome, answering, Reply, sent, waits, settles, again, fails}
use Rattle.sender.specs.Queue as sender
use Rattle.sender.specs.Told.{queue_of, leaving, StartAnswer, ready, no_bench, starting}
use mathlib.Core.Option.{Option, none, some}

-- an answer with the number 0 is no refusal
no_refusal : (s : Slots) (r : ℕ) → s.number ≡ 0 → r ≡ word s → IsRefusal r → ⊥
unfolding word
no_refusal s r z e h =
    let zero : word s % 256 ≡ 0 = omega (arith, z) in
    h (ap (λ (w : ℕ). w % 256) e ∙ zero)

kept_read : (a : Answer) (entry exit : List ℕ) (r : ℕ) → r ≡ word (read_slots a) → exit ≡ fields_after a entry → IsRefusal r → exit ≡ entry
kept_read (accepted f) entry exit r e x h = absurd (no_refusal _ r refl e h)
kept_read (refused n) entry exit r e x h = x

pub read_keeps : ReadKeeps
read_keeps bytes entry r exit p h = kept_read (reading bytes) entry exit r p.0 p.1 h

kept_write : (o : write.WriteOutcome) (entry exit : List ℕ) (r : ℕ) → r ≡ word (write_slots (write.answer_to_writing o)) → exit ≡ write.after_writing o entry → IsRefusal r → exit ≡ entry
kept_write (write.written m) entry exit r e x h = absurd (no_refusal _ r refl e h)
kept_write (write.refused n) entry exit r e x h = x

pub write_keeps : WriteKeeps
write_keeps g entry r exit p h = kept_write (write.writing g (length entry)) entry exit r p.0 p.1 h

kept_rewrite : (a : RewriteAnswer) (s entry exit : List ℕ) (r : ℕ) → r ≡ word (rewrite_slots a) → exit ≡ after_rewriting a s entry → IsRefusal r → exit ≡ entry
kept_rewrite (rewrote n) s entry exit r e x h = absurd (no_refusal _ r refl e h)
kept_rewrite (refused n) s entry exit r e x h = x
kept_rewrite no_room s entry exit r e x h = x

pub rewrite_keeps : RewriteKeeps
rewrite_keeps bytes entry r exit p h = kept_rewrite (rewriting bytes (length entry)) bytes entry exit r p.0 p.1 h

kept_line : (a : EntryAnswer) (entry exit : List ℕ) (r : ℕ) → r ≡ word (line_slots a) → exit ≡ line_after a entry → IsRefusal r → exit ≡ entry
kept_line (line t n s retired) entry exit r e x h = absurd (no_refusal _ r refl e h)
kept_line (refused n) entry exit r e x h = x

pub line_keeps : LineKeeps
line_keeps f n entry r exit p h = kept_line (entry_at f n) entry exit r p.0 p.1 h

kept_step : (a : StepAnswer) (on : ℕ) (entry exit : List ℕ) (r : ℕ) → r ≡ word (step_slots a on) → exit ≡ part_after a entry → IsRefusal r → exit ≡ entry
kept_step (step.message retired part) on entry exit r e x h = absurd (no_refusal _ r refl e h)
kept_step (step.refused n) on entry exit r e x h = x
kept_step end on entry exit r e x h = x

pub step_keeps : StepKeeps
step_keeps f n entry r exit p h = kept_step (step_at f n) (next_after f n - n) entry exit r p.0 p.1 h

told_done : (b : Bool) (n : ℕ) → (compare_slots (cond b compare.same (compare.different n))).number ≡ 0
told_done true n = refl
told_done false n = refl

kept_compare : (o : compare.CompareOutcome) (entry exit : List ℕ) (r : ℕ) → r ≡ word (compare_slots (compare.answer_to_comparing o)) → exit ≡ after_comparing o entry → IsRefusal r → exit ≡ entry
unfolding compare.answer_to_comparing after_comparing
kept_compare (compare.positions ks) entry exit r e x h = absurd (no_refusal _ r (told_done (eqb (length ks) 0) (length ks)) e h)
kept_compare (compare.refused n) entry exit r e x h = x

pub compare_keeps : CompareKeeps
compare_keeps f n radio entry r exit p h = kept_compare (comparing f n radio) entry exit r p.0 p.1 h

kept_make : (a : MakeAnswer) (m entry exit : List ℕ) (r : ℕ) → r ≡ word (make_slots a) → exit ≡ make.after_making a m entry → IsRefusal r → exit ≡ entry
kept_make made m entry exit r e x h = absurd (no_refusal _ r refl e h)
kept_make (make.refused n) m entry exit r e x h = x

pub make_keeps : MakeKeeps
make_keeps m entry r exit p h = kept_make (making m (length entry)) m entry exit r p.0 p.1 h

kept_retire : (a : RetireAnswer) (f : List ℕ) (n : ℕ) (entry exit : List ℕ) (r : ℕ) → r ≡ word (retire_slots a) → exit ≡ retire.after_retiring a f n entry → IsRefusal r → exit ≡ entry
kept_retire retire.done f n entry exit r e x h = absurd (no_refusal _ r refl e h)
kept_retire (retire.refused q) f n entry exit r e x h = x

pub retire_keeps : RetireKeeps
retire_keeps f n entry r exit p h = kept_retire (retiring f n (length entry)) f n entry exit r p.0 p.1 h

kept_unwrap : (a : UnwrapAnswer) (entry exit : FrameLent) (r : ℕ) → r ≡ word (unwrap_slots a) → exit ≡ lent_after_unwrapping a entry → IsRefusal r → exit ≡ entry
kept_unwrap (unwrap.message c p f) entry exit r e x h = absurd (no_refusal _ r refl e h)
kept_unwrap (unwrap.acknowledgment c k) entry exit r e x h = absurd (no_refusal _ r refl e h)
kept_unwrap (unwrap.refused n) entry exit r e x h = x

pub unwrap_keeps : UnwrapKeeps
unwrap_keeps bytes entry r exit p h = kept_unwrap (unwrapping bytes) entry exit r p.0 p.1 h

kept_frame : (o : wrap.WrapOutcome) (entry : List ℕ) → KeptOnRefusal (WritesFrameForC o entry) entry
kept_frame (wrap.written s) entry r exit p h = absurd (no_refusal _ r refl p.0 h)
kept_frame (wrap.refused n) entry r exit p h = p.1

pub wrap_keeps : WrapKeeps
wrap_keeps m commid entry = kept_frame (wrapping m commid (length entry)) entry

pub acknowledge_keeps : AcknowledgeKeeps
acknowledge_keeps commid acknowledged entry = kept_frame (acknowledging commid acknowledged (length entry)) entry

kept_fields : (a : Finding) (used : ℕ) (entry exit : List ℕ) (r : ℕ) → r ≡ word (found_slots a used) → exit ≡ fields_found a entry → IsRefusal r → exit ≡ entry
kept_fields nothing used entry exit r e x h = x
kept_fields (message n f) used entry exit r e x h = absurd (no_refusal _ r refl e h)
kept_fields (refused f) used entry exit r e x h = x

pub take_keeps_fields : TakeKeepsFields
take_keeps_fields entry piece r exit p h =
    kept_fields (taking_for entry piece).finding (taking_for entry piece).used entry.fields exit.fields r p.0 (ap (λ (l : Lent). l.fields) p.1) h

settled_none : (o : Option ℕ) (r : ℕ) → r ≡ word (reply_slots (settles o)) → IsRefusal r → ⊥
settled_none none r e h = no_refusal _ r refl e h
settled_none (some x) r e h = no_refusal _ r refl e h

failed_none : (o : Option ℕ) (r : ℕ) → r ≡ word (reply_slots (fails o)) → IsRefusal r → ⊥
failed_none none r e h = no_refusal _ r refl e h
failed_none (some x) r e h = no_refusal _ r refl e h

-- by the reply, whatever queue is then left
kept_event : (a : Reply) (q : Queue) (entry exit : SenderLent) (r : ℕ) → r ≡ word (reply_slots a)
    → exit ≡ sender_lent (leaving a q (sender_for entry.waiting entry.numbers)).places (numbers_after a (leaving a q (sender_for entry.waiting entry.numbers)).beside entry.numbers)
    → IsRefusal r → exit ≡ entry
kept_event sent q entry exit r e x h = absurd (no_refusal _ r refl e h)
kept_event waits q entry exit r e x h = absurd (no_refusal _ r refl e h)
kept_event (settles o) q entry exit r e x h = absurd (settled_none o r e h)
kept_event again q entry exit r e x h = absurd (no_refusal _ r refl e h)
kept_event (fails o) q entry exit r e x h = absurd (failed_none o r e h)
kept_event (sender.refused k) q entry exit r e x h = x

pub event_keeps : EventKeeps
event_keeps e entry r exit p h =
    let o = answering e (queue_of (sender_for entry.waiting entry.numbers)) in
    kept_event o.reply o.after entry exit r p.0 p.1 h

kept_start : (a : StartAnswer) (entry exit : List ℕ) (r : ℕ) → r ≡ word (start_slots a) → exit ≡ start_numbers a entry → IsRefusal r → exit ≡ entry
kept_start (ready b) entry exit r e x h = absurd (no_refusal _ r refl e h)
kept_start (no_bench k) entry exit r e x h = x

pub start_keeps : StartKeeps
start_keeps n entry r exit p h = kept_start (starting n) entry exit r p.0 p.1 h
