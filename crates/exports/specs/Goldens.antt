-- The golden file's operations as C sees them: each answer as a word, and what the lent arrays then hold.
-- The answers themselves are those of the crate `golden`.
use Rattle.std.specs.Prelude.{ℕ, ◌-◌, Bool, cond, List, [], ◌∷◌, ◌≡◌, length}
use Rattle.golden.specs.Checking.{CheckAnswer, counted, refused, checking}
use Rattle.golden.specs.Comparing.{CompareAnswer, same, different, comparing, answer_to_comparing, after_comparing}
use Rattle.golden.specs.Comparing as compare
use Rattle.golden.specs.Finding.{NameFields, FindAnswer, found, finding}
use Rattle.golden.specs.Finding as find
use Rattle.golden.specs.Halving.{halving}
use Rattle.golden.specs.Listing.{CountAnswer, counting, counting_retired, EntryAnswer, line, entry_at}
use Rattle.golden.specs.Listing as listing
use Rattle.golden.specs.Making.{MakeAnswer, made, making, after_making}
use Rattle.golden.specs.Making as make
use Rattle.golden.specs.Ordering.{OrderAnswer, ascends, breaks, ordering}
use Rattle.golden.specs.Ordering as order
use Rattle.golden.specs.Retiring.{RetireAnswer, retiring, after_retiring}
use Rattle.golden.specs.Retiring as retire
use Rattle.golden.specs.Stepping.{StepAnswer, message, end, step_at, next_after}
use Rattle.golden.specs.Stepping as step
use Rattle.exports.specs.Word.{Slots, slots, word, done, sized, refused_with}

-- ---- count and check: the count is that of the records, or the refused record's number

abbrev pub count_slots : CountAnswer → Slots
count_slots (listing.counted n) = slots 0 0 n 0
count_slots (listing.refused r) = refused_with r 0

-- what `morlewen_records` promises
abbrev pub CountsForC : List ℕ → ℕ → Type 0
CountsForC f r = r ≡ word (count_slots (counting f))

-- what `morlewen_retired_records` promises
abbrev pub CountsRetiredForC : List ℕ → ℕ → Type 0
CountsRetiredForC f r = r ≡ word (count_slots (counting_retired f))

abbrev pub check_slots : CheckAnswer → Slots
check_slots (counted n) = slots 0 0 n 0
check_slots (refused n r) = refused_with r n

-- what `morlewen_check` promises
abbrev pub ChecksForC : List ℕ → ℕ → Type 0
ChecksForC f r = r ≡ word (check_slots (checking f))

-- ---- find: the count is that of the records opened, the value the record's number

abbrev pub find_slots : FindAnswer → Slots
find_slots (found n opened) = slots 0 0 opened n
find_slots (find.refused r opened) = refused_with r opened

abbrev pub name_for : (message_type number : ℕ) → NameFields
name_for message_type number = record { message_type = message_type; number = number }

-- what `morlewen_find` promises
abbrev pub FindsForC : List ℕ → NameFields → ℕ → Type 0
FindsForC f name r = r ≡ word (find_slots (finding f name))

-- what `morlewen_find_by_halving` promises (K9)
abbrev pub HalvesForC : List ℕ → NameFields → ℕ → Type 0
HalvesForC f name r = r ≡ word (find_slots (halving f name))

-- ---- the order: the value is 1 where it ascends; else the count is the record where it breaks, or the refused record's number

abbrev pub order_slots : OrderAnswer → Slots
order_slots ascends = slots 0 0 0 1
order_slots (breaks n) = slots 0 0 n 0
order_slots (order.refused n r) = refused_with r n

-- what `morlewen_ascending` promises (K9)
abbrev pub OrdersForC : List ℕ → ℕ → Type 0
OrdersForC f r = r ≡ word (order_slots (ordering f))

-- ---- where a record is good, the second slot tells whether it is retired (K7)

abbrev pub mark_of : Bool → ℕ
mark_of retired = cond retired 1 0

-- ---- a line of the listing

abbrev pub line_slots : EntryAnswer → Slots
line_slots (line message_type number size retired) = slots 0 (mark_of retired) 0 0
line_slots (listing.refused r) = refused_with r 0

abbrev pub line_after : EntryAnswer → List ℕ → List ℕ
line_after (line message_type number size retired) entry = message_type ∷ number ∷ size ∷ []
line_after (listing.refused r) entry = entry

-- what `morlewen_line` promises
abbrev pub EntersForC : List ℕ → ℕ → List ℕ → ℕ → List ℕ → Type 0
EntersForC f n entry r exit = (r ≡ word (line_slots (entry_at f n))) × (exit ≡ line_after (entry_at f n) entry)

-- ---- step: the count is by how many records the walk goes on, the value the message's size, 0 at the end

abbrev pub step_slots : StepAnswer → ℕ → Slots
step_slots (message retired part) on = slots 0 (mark_of retired) on part.size
step_slots (step.refused r) on = refused_with r on
step_slots end on = slots 0 0 on 0

abbrev pub part_after : StepAnswer → List ℕ → List ℕ
part_after (message retired part) entry = part.place ∷ part.size ∷ []
part_after (step.refused r) entry = entry
part_after end entry = entry

-- what `morlewen_step` promises
abbrev pub StepsForC : List ℕ → ℕ → List ℕ → ℕ → List ℕ → Type 0
StepsForC f n entry r exit =
    (r ≡ word (step_slots (step_at f n) (next_after f n - n))) × (exit ≡ part_after (step_at f n) entry)

-- ---- compare: the value is the total of differing places

abbrev pub compare_slots : CompareAnswer → Slots
compare_slots same = done
compare_slots (different n) = sized n
compare_slots (compare.refused r) = refused_with r 0

-- what `morlewen_compare` promises
abbrev pub ComparesForC : List ℕ → ℕ → List ℕ → List ℕ → ℕ → List ℕ → Type 0
ComparesForC f n radio entry r exit =
    (r ≡ word (compare_slots (answer_to_comparing (comparing f n radio)))) × (exit ≡ after_comparing (comparing f n radio) entry)

-- ---- make

abbrev pub make_slots : MakeAnswer → Slots
make_slots made = done
make_slots (make.refused r) = refused_with r 0

-- what `morlewen_make` promises
abbrev pub MakesForC : List ℕ → List ℕ → ℕ → List ℕ → Type 0
MakesForC m entry r exit = (r ≡ word (make_slots (making m (length entry)))) × (exit ≡ after_making (making m (length entry)) m entry)

-- ---- retire

abbrev pub retire_slots : RetireAnswer → Slots
retire_slots retire.done = done
retire_slots (retire.refused r) = refused_with r 0

-- what `morlewen_retire` promises
abbrev pub RetiresForC : List ℕ → ℕ → List ℕ → ℕ → List ℕ → Type 0
RetiresForC f n entry r exit =
    (r ≡ word (retire_slots (retiring f n (length entry)))) × (exit ≡ after_retiring (retiring f n (length entry)) f n entry)
