-- What a listing needs: the count of a file and of its retired records (K7), and of each record the type, number and length of its message and whether it is retired (K7), or its refusal. RULES 5.
-- 21 comes first, then 22.
use Rattle.std.specs.Prelude.{ℕ, zero, suc, ◌+◌, Bool, cond, List, ◌≡◌, Result, Ok, Err}
use Rattle.envelope.specs.Refusals.{Refused, plainly}
use Rattle.golden.specs.File.{bad_file, count_of, not_there, record_at, judged_at}
use Rattle.golden.specs.Record.{stored_length, Judged, good, bad}
use Rattle.golden.specs.Refusal.{told_golden_refusal}
use Rattle.golden.specs.declared.lister.Entry.{Entry}
use Rattle.golden.specs.declared.refusal.Refusal.{Refusal}

pub data CountAnswer : Type 0 where
  counted : ℕ → CountAnswer
  refused : Refused → CountAnswer

unfoldable pub counting : List ℕ → CountAnswer
counting f = cond (bad_file f) (refused (plainly 21)) (counted (count_of f))

abbrev pub told_counting : Result ℕ Refusal → CountAnswer
told_counting (Ok n) = counted n
told_counting (Err r) = refused (told_golden_refusal r)

-- what `count` promises
abbrev pub Counts : List ℕ → Result ℕ Refusal → Type 0
Counts f r = told_counting r ≡ counting f

-- a record that is good and retired counts as one (K7)
abbrev pub one_if_retired : Judged → ℕ
one_if_retired (good retired fields) = cond retired 1 0
one_if_retired (bad r) = 0

-- among the first n records
unfoldable pub retired_below : List ℕ → ℕ → ℕ
retired_below f zero = 0
retired_below f (suc n) = retired_below f n + one_if_retired (judged_at f n)

unfoldable pub counting_retired : List ℕ → CountAnswer
counting_retired f = cond (bad_file f) (refused (plainly 21)) (counted (retired_below f (count_of f)))

-- what `count_retired` promises
abbrev pub CountsRetired : List ℕ → Result ℕ Refusal → Type 0
CountsRetired f r = told_counting r ≡ counting_retired f

pub data EntryAnswer : Type 0 where
  line : (message_type number size : ℕ) (retired : Bool) → EntryAnswer
  refused : Refused → EntryAnswer

abbrev pub entry_of : List ℕ → ℕ → Judged → EntryAnswer
entry_of f n (good retired fields) = line fields.header.message_type fields.header.number (stored_length (record_at f n)) retired
entry_of f n (bad r) = refused r

unfoldable pub entry_at : List ℕ → ℕ → EntryAnswer
entry_at f n =
    cond (bad_file f) (refused (plainly 21))
    (cond (not_there f n) (refused (plainly 22))
    (entry_of f n (judged_at f n)))

abbrev pub told_entry : Result Entry Refusal → EntryAnswer
told_entry (Ok entry) = line entry.name.message_type entry.name.number entry.size entry.retired
told_entry (Err r) = refused (told_golden_refusal r)

-- what `entry_at` promises
abbrev pub Enters : List ℕ → ℕ → Result Entry Refusal → Type 0
Enters f n r = told_entry r ≡ entry_at f n
