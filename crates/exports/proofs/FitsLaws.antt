-- Each answer fits its slots, by the sizes that the layers below promise; and the slots come back from the word.
-- The laws of sizes are those of the layers below; here they are only read in slots.
use mathlib.Core.List.{List}
use mathlib.Core.Path.{◌≡◌, ap, sym, ◌∙◌}
use Prim.Native.Nat.{ℕ, ◌+◌, ◌*◌, ◌/◌, ◌%◌, ◌≤◌, ◌<◌, ◌^◌}
use native.Mathlib.Omega.{arith}
use Rattle.envelope.specs.Fields.{Answer}
use Rattle.envelope.specs.Fields as envelope
use Rattle.envelope.specs.Layout.{largest_message}
use Rattle.envelope.specs.Rewriting.{RewriteAnswer, rewrote, refused, no_room, rewriting, rewrote_length, rewrite_place}
use Rattle.envelope.specs.Message.{Given}
use Rattle.envelope.specs.Promise.{Bytes}
use Rattle.envelope.specs.Reading.{reading}
use Rattle.envelope.specs.Writing.{WriteAnswer, wrote, refused, writing, wrote_length}
use Rattle.envelope.specs.Writing as write
use Rattle.feed.specs.Feeding.{State, Finding, nothing, FeedOutcome, ending}
use Rattle.feed.specs.Feeding as feed
use Rattle.feed.specs.Messages.{found_size, Few}
use Rattle.feed.specs.Places.{CountTellsPlace, found_place, PointsShort}
use Rattle.feed.specs.Verdict.{room}
use Rattle.feed.proofs.PlaceLaws.{end_points_short}
use Rattle.feed.proofs.FewLaws.{end_finds_no_message}
use Rattle.frame.specs.Layout.{least_size}
use Rattle.frame.specs.Sizes.{message_size, wrote_length as wroteFrame, unwrap_place, wrap_place}
use Rattle.frame.specs.Unwrapping.{UnwrapAnswer, unwrapping}
use Rattle.frame.specs.Unwrapping as unwrap
use Rattle.frame.specs.Wrapping.{WrapAnswer, wrapping, acknowledging}
use Rattle.frame.specs.Wrapping as wrap
use Rattle.frame.proofs.PointLaws.{unwrap_points_within, wrap_points_within, acknowledge_points_nowhere}
use Rattle.frame.proofs.SizeLaws.{unwraps_no_longer, wraps_no_longer, acknowledges_no_longer}
use Rattle.golden.specs.Checking.{CheckAnswer, counted, refused, checking}
use Rattle.golden.specs.Comparing.{CompareAnswer, same, different, refused, comparing, answer_to_comparing}
use Rattle.golden.specs.File.{most_records}
use Rattle.golden.specs.Finding.{NameFields, FindAnswer, found, finding}
use Rattle.golden.specs.Finding as find
use Rattle.golden.specs.Listing.{CountAnswer, counting, counting_retired, EntryAnswer, entry_at}
use Rattle.golden.specs.Listing as listing
use Rattle.golden.specs.Halving.{halving}
use Rattle.golden.specs.Making.{MakeAnswer, making}
use Rattle.golden.specs.Making as make
use Rattle.golden.specs.Record.{message_room}
use Rattle.golden.specs.Retired.{retire_place}
use Rattle.golden.specs.Retiring.{RetireAnswer, retiring}
use Rattle.golden.specs.Retiring as retire
use Rattle.golden.specs.Stepping.{StepAnswer, message, end, step_at}
use Rattle.golden.specs.Stepping as step
use Rattle.golden.specs.Halved.{order_number, order_place}
use Rattle.golden.specs.Ordering.{OrderAnswer, ascends, breaks, ordering}
use Rattle.golden.specs.Ordering as order
use Rattle.golden.specs.Theorems.{checked_number, counted_number, opened_number, found_number, reached_size, difference_total, count_place, check_place, find_place, step_place, entry_place, compare_place, make_place}
use Rattle.envelope.proofs.PlaceLaws.{places_within}
use Rattle.envelope.proofs.RewriteLaws.{rewrites_no_longer, rewrite_points_within}
use Rattle.envelope.proofs.WriteLaws.{writes_no_longer}
use Rattle.golden.proofs.CountLaws.{retired_are_few}
use Rattle.golden.proofs.OrderingLaws.{order_names_few, order_points_short}
use Rattle.golden.proofs.FewLaws.{check_names_few, count_is_few, find_opens_few, step_reaches_short, compare_totals_few}
use Rattle.golden.proofs.HalvedLaws.{halving_finds_few, halving_points_short}
use Rattle.golden.proofs.HalvingLaws.{eight_openings}
use Rattle.golden.proofs.PointLaws.{count_points_nowhere, check_points_short, find_points_short, step_points_short, entry_points_short, compare_points_within, make_points_short}
use Rattle.golden.proofs.RetiredLaws.{retire_points_short}
use Rattle.exports.specs.Envelopes.{read_slots, write_slots, rewrite_slots}
use Rattle.exports.specs.Feeds.{found_slots}
use Rattle.exports.specs.Frames.{unwrap_slots, wrap_slots}
use Rattle.exports.specs.Goldens.{count_slots, order_slots, check_slots, find_slots, line_slots, step_slots, compare_slots, make_slots, retire_slots}
use Rattle.exports.specs.Word.{word, FitsWord, WordTellsItsSlots}

read_in : (s : List ℕ) (a : Answer) → Bytes s → reading s ≡ a → FitsWord (read_slots a)
read_in s (envelope.accepted f) bytes e = (omega arith, omega arith)
read_in s (envelope.refused r) bytes e = (omega arith, omega (arith, places_within s r bytes e))

pub read_fits : (s : List ℕ) (a : Answer) → Bytes s → a ≡ reading s → FitsWord (read_slots a)
read_fits s a bytes e = read_in s a bytes (sym e)

write_in : (a : WriteAnswer) → wrote_length a ≤ largest_message → FitsWord (write_slots a)
write_in (wrote n) h = (omega arith, omega (arith, h))
write_in (refused n) h = (omega arith, omega arith)

pub write_fits : (g : Given) (room : ℕ) (a : WriteAnswer) → a ≡ write.answer_to_writing (writing g room) → FitsWord (write_slots a)
write_fits g room a e = rw e (write_in (write.answer_to_writing (writing g room)) (writes_no_longer g room))

rewrite_in : (a : RewriteAnswer) → rewrote_length a ≤ largest_message → rewrite_place a ≤ largest_message → FitsWord (rewrite_slots a)
rewrite_in (rewrote n) h p = (omega arith, omega (arith, h))
rewrite_in (refused r) h p = (omega arith, omega (arith, p))
rewrite_in no_room h p = (omega arith, omega arith)

pub rewrite_fits : (s : List ℕ) (room : ℕ) (a : RewriteAnswer) → Bytes s → a ≡ rewriting s room → FitsWord (rewrite_slots a)
rewrite_fits s room a bytes e = rw e (rewrite_in (rewriting s room) (rewrites_no_longer s room bytes) (rewrite_points_within s room bytes))

count_in : (a : CountAnswer) → counted_number a ≤ most_records → count_place a ≡ 0 → FitsWord (count_slots a)
count_in (listing.counted n) h p = (omega (arith, h), omega arith)
count_in (listing.refused r) h p = (omega arith, omega (arith, p))

pub count_fits : (f : List ℕ) (a : CountAnswer) → a ≡ counting f → FitsWord (count_slots a)
count_fits f a e = rw e (count_in (counting f) (count_is_few f) (count_points_nowhere f).0)

pub count_retired_fits : (f : List ℕ) (a : CountAnswer) → a ≡ counting_retired f → FitsWord (count_slots a)
count_retired_fits f a e = rw e (count_in (counting_retired f) (retired_are_few f) (count_points_nowhere f).1)

order_in : (a : OrderAnswer) → order_number a ≤ most_records → order_place a ≤ message_room → FitsWord (order_slots a)
order_in ascends h p = (omega arith, omega arith)
order_in (breaks n) h p = (omega (arith, h), omega arith)
order_in (order.refused n r) h p = (omega (arith, h), omega (arith, p))

pub order_fits : (f : List ℕ) (a : OrderAnswer) → a ≡ ordering f → FitsWord (order_slots a)
order_fits f a e = rw e (order_in (ordering f) (order_names_few f) (order_points_short f))

check_in : (a : CheckAnswer) → checked_number a ≤ most_records → check_place a ≤ message_room → FitsWord (check_slots a)
check_in (counted n) h p = (omega (arith, h), omega arith)
check_in (refused n r) h p = (omega (arith, h), omega (arith, p))

pub check_fits : (f : List ℕ) (a : CheckAnswer) → a ≡ checking f → FitsWord (check_slots a)
check_fits f a e = rw e (check_in (checking f) (check_names_few f) (check_points_short f))

find_in : (a : FindAnswer) → (opened_number a ≤ most_records) × (found_number a ≤ most_records) → find_place a ≤ message_room
    → FitsWord (find_slots a)
find_in (found n opened) h p = (omega (arith, h.0), omega (arith, h.1))
find_in (find.refused r opened) h p = (omega (arith, h.0), omega (arith, p))

pub find_fits : (f : List ℕ) (name : NameFields) (a : FindAnswer) → a ≡ finding f name
    → FitsWord (find_slots a)
find_fits f name a e = rw e (find_in (finding f name) (find_opens_few f name) (find_points_short f name))

pub halving_fits : (f : List ℕ) (name : NameFields) (a : FindAnswer) → a ≡ halving f name
    → FitsWord (find_slots a)
halving_fits f name a e =
    let eight = eight_openings f name in
    rw e (find_in (halving f name) (omega (arith, eight), halving_finds_few f name) (halving_points_short f name))

line_in : (a : EntryAnswer) → entry_place a ≤ message_room → FitsWord (line_slots a)
line_in (listing.line message_type number size retired) p = (omega arith, omega arith)
line_in (listing.refused r) p = (omega arith, omega (arith, p))

pub line_fits : (f : List ℕ) (n : ℕ) (a : EntryAnswer) → a ≡ entry_at f n → FitsWord (line_slots a)
line_fits f n a e = rw e (line_in (entry_at f n) (entry_points_short f n))

step_in : (a : StepAnswer) (on : ℕ) → on < 2 ^ 16 → reached_size a ≤ message_room → step_place a ≤ message_room → FitsWord (step_slots a on)
step_in (message retired part) on b h p = (b, omega (arith, h))
step_in (step.refused r) on b h p = (b, omega (arith, p))
step_in end on b h p = (b, omega arith)

pub step_fits : (f : List ℕ) (n : ℕ) (a : StepAnswer) (on : ℕ) → on < 2 ^ 16 → a ≡ step_at f n → FitsWord (step_slots a on)
step_fits f n a on b e = rw e (step_in (step_at f n) on b (step_reaches_short f n) (step_points_short f n))

compare_in : (a : CompareAnswer) → difference_total a ≤ largest_message → compare_place a ≤ largest_message → FitsWord (compare_slots a)
compare_in same h p = (omega arith, omega arith)
compare_in (different n) h p = (omega arith, omega (arith, h))
compare_in (refused r) h p = (omega arith, omega (arith, p))

pub compare_fits : (f : List ℕ) (n : ℕ) (radio : List ℕ) (a : CompareAnswer) → Bytes radio → a ≡ answer_to_comparing (comparing f n radio)
    → FitsWord (compare_slots a)
compare_fits f n radio a bytes e = rw e (compare_in (answer_to_comparing (comparing f n radio)) (compare_totals_few f n radio bytes) (compare_points_within f n radio bytes))

make_in : (a : MakeAnswer) → make_place a ≤ message_room → FitsWord (make_slots a)
make_in make.made p = (omega arith, omega arith)
make_in (make.refused r) p = (omega arith, omega (arith, p))

pub make_fits : (m : List ℕ) (room : ℕ) (a : MakeAnswer) → a ≡ making m room → FitsWord (make_slots a)
make_fits m room a e = rw e (make_in (making m room) (make_points_short m room))

retire_in : (a : RetireAnswer) → retire_place a ≤ message_room → FitsWord (retire_slots a)
retire_in retire.done p = (omega arith, omega arith)
retire_in (retire.refused r) p = (omega arith, omega (arith, p))

pub retire_fits : (f : List ℕ) (n room : ℕ) (a : RetireAnswer) → a ≡ retiring f n room → FitsWord (retire_slots a)
retire_fits f n room a e = rw e (retire_in (retiring f n room) (retire_points_short f n room))

found_in : (a : Finding) (used : ℕ) → used < 2 ^ 16 → found_size a ≤ room → found_place a ≤ room → FitsWord (found_slots a used)
found_in nothing used b h p = (b, omega arith)
found_in (feed.message n f) used b h p = (b, omega (arith, h))
found_in (feed.refused f) used b h p = (b, omega (arith, p))

pub take_fits : (s : State) (o : FeedOutcome) → CountTellsPlace s → Few o → PointsShort s o
    → FitsWord (found_slots o.finding o.used)
take_fits s o told few points = found_in o.finding o.used (omega (arith, few.used)) few.size (points told)

pub end_fits : (s : State) (o : FeedOutcome) → CountTellsPlace s → o ≡ ending s → FitsWord (found_slots o.finding 0)
end_fits s o told e =
    let size : found_size o.finding ≡ 0 = ap (λ (x : FeedOutcome). found_size x.finding) e ∙ end_finds_no_message s in
    found_in o.finding 0 (omega arith) (omega (arith, size)) (end_points_short s o e told)

unwrap_in : (a : UnwrapAnswer) → message_size a ≤ largest_message → unwrap_place a ≤ largest_message → FitsWord (unwrap_slots a)
unwrap_in (unwrap.message commid p f) h q = (omega arith, omega (arith, h))
unwrap_in (unwrap.acknowledgment commid acknowledged) h q = (omega arith, omega arith)
unwrap_in (unwrap.refused r) h q = (omega arith, omega (arith, q))

pub unwrap_fits : (s : List ℕ) (a : UnwrapAnswer) → Bytes s → a ≡ unwrapping s → FitsWord (unwrap_slots a)
unwrap_fits s a bytes e = rw e (unwrap_in (unwrapping s) (unwraps_no_longer s bytes) (unwrap_points_within s bytes))

wrap_in : (a : WrapAnswer) → wroteFrame a ≤ least_size + largest_message → wrap_place a ≤ largest_message → FitsWord (wrap_slots a)
wrap_in (wrap.wrote n) h p = (omega arith, omega (arith, h))
wrap_in (wrap.refused r) h p = (omega arith, omega (arith, p))

pub wrap_fits : (m : List ℕ) (commid room : ℕ) (a : WrapAnswer) → Bytes m → a ≡ wrap.answer_to_wrapping (wrapping m commid room) → FitsWord (wrap_slots a)
wrap_fits m commid room a bytes e = rw e (wrap_in (wrap.answer_to_wrapping (wrapping m commid room)) (wraps_no_longer m commid room bytes) (wrap_points_within m commid room bytes))

pub acknowledge_fits : (commid acknowledged room : ℕ) (a : WrapAnswer) → a ≡ wrap.answer_to_wrapping (acknowledging commid acknowledged room) → FitsWord (wrap_slots a)
acknowledge_fits commid acknowledged room a e = rw e (wrap_in (wrap.answer_to_wrapping (acknowledging commid acknowledged room)) (acknowledges_no_longer commid acknowledged room) (omega (arith, acknowledge_points_nowhere commid acknowledged room)))

-- ---- the slots come back

pub word_tells_its_slots : WordTellsItsSlots
unfolding word
word_tells_its_slots s fits =
    let upper : word s / 65536 ≡ s.count + s.value * 65536 = omega (arith, fits.number, fits.reading) in
    let lower : word s / 256 ≡ s.reading + (s.count + s.value * 65536) * 256 = omega (arith, fits.number) in
    let number : word s % 256 ≡ s.number = omega (arith, fits.number) in
    let reading : word s / 256 % 256 ≡ s.reading = rw lower (omega (arith, fits.reading)) in
    let count : word s / 65536 % 65536 ≡ s.count = rw upper (omega (arith, fits.count)) in
    let value : word s / 4294967296 ≡ s.value = omega (arith, fits.number, fits.reading, fits.count) in
    λ i. record { number = number i; reading = reading i; count = count i; value = value i }
