-- Retire: the file is written to a second buffer with the top bit of one record's stored length set, and no other byte different. RULES 5 (K7).
-- Refusals: 21, 22, 23 to 25 for that record, then 36 (already retired), 37 (the buffer's length is not the file's). `room` is the buffer's length. No refusal writes.
use Rattle.std.specs.Prelude.{ℕ, ◌+◌, ◌*◌, cond, not, List, ◌≡◌, eqb, length, set, Result, Ok, Err}
use Rattle.envelope.specs.Numbers.{byte_at}
use Rattle.envelope.specs.Refusals.{Refused, plainly}
use Rattle.golden.specs.File.{bad_file, not_there, judged_at}
use Rattle.golden.specs.Record.{record_size, Judged, good, bad}
use Rattle.golden.specs.Refusal.{told_golden_refusal}
use Rattle.golden.specs.declared.refusal.Refusal.{Refusal}

-- the top bit of a byte
abbrev pub top_bit : ℕ
top_bit = 128

-- the file with the top bit of record n's first byte set, where it was not
unfoldable pub marked : List ℕ → ℕ → List ℕ
marked f n = set f (n * record_size) (top_bit + byte_at f (n * record_size))

pub data RetireAnswer : Type 0 where
  done : RetireAnswer
  refused : Refused → RetireAnswer

-- 36, then 37, once the record is good
abbrev pub retiring_judged : Judged → (size room : ℕ) → RetireAnswer
retiring_judged (bad r) size room = refused r
retiring_judged (good retired fields) size room =
    cond retired (refused (plainly 36))
    (cond (not (eqb room size)) (refused (plainly 37))
    done)

unfoldable pub retiring : List ℕ → ℕ → ℕ → RetireAnswer
retiring f n room =
    cond (bad_file f) (refused (plainly 21))
    (cond (not_there f n) (refused (plainly 22))
    (retiring_judged (judged_at f n) (length f) room))

-- the buffer afterwards
abbrev pub after_retiring : RetireAnswer → List ℕ → ℕ → List ℕ → List ℕ
after_retiring done f n entry = marked f n
after_retiring (refused r) f n entry = entry

abbrev pub told_retiring : Result (Unit {0}) Refusal → RetireAnswer
told_retiring (Ok u) = done
told_retiring (Err r) = refused (told_golden_refusal r)

-- what `retire` promises, of its answer and of the whole buffer afterwards
abbrev pub Retires : List ℕ → ℕ → List ℕ → Result (Unit {0}) Refusal → List ℕ → Type 0
Retires f n entry r exit =
    (told_retiring r ≡ retiring f n (length entry)) × (exit ≡ after_retiring (retiring f n (length entry)) f n entry)
