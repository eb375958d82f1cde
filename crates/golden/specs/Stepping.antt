-- Walk: a step answers the message of a record as a part of the file, its refusal, or the end, and the number of the next record. RULES 5.
-- A retired record's message is answered too, and that it is retired (K7). The next is one on, except at the end and at 21, where the walk stays. A number at or past the count is the end.
use Rattle.std.specs.Prelude.{ℕ, ◌+◌, ◌*◌, Bool, cond, List, ◌≡◌, Option, Some, None, Result, Ok, Err}
use Rattle.envelope.specs.Fields.{Span}
use Rattle.envelope.specs.Refusals.{Refused, plainly}
use Rattle.envelope.specs.Told.{told_part}
use Rattle.envelope.specs.declared.fields.Part.{Part}
use Rattle.golden.specs.File.{bad_file, not_there, record_at, judged_at}
use Rattle.golden.specs.Record.{record_size, head_size, stored_length, Judged, good, bad}
use Rattle.golden.specs.Refusal.{told_golden_refusal}
use Rattle.golden.specs.declared.refusal.Refusal.{Refusal}
use Rattle.golden.specs.declared.stepper.Stepping.{Stepping}
use Rattle.golden.specs.declared.stepper.Stored.{Stored}

pub data StepAnswer : Type 0 where
  message : (retired : Bool) → Span → StepAnswer
  refused : Refused → StepAnswer
  end : StepAnswer

-- the message of record n, as a part of the file
abbrev pub message_part : List ℕ → ℕ → Span
message_part f n = record { place = n * record_size + head_size; size = stored_length (record_at f n) }

abbrev pub step_of : List ℕ → ℕ → Judged → StepAnswer
step_of f n (good retired fields) = message retired (message_part f n)
step_of f n (bad r) = refused r

unfoldable pub step_at : List ℕ → ℕ → StepAnswer
step_at f n =
    cond (bad_file f) (refused (plainly 21))
    (cond (not_there f n) end
    (step_of f n (judged_at f n)))

unfoldable pub next_after : List ℕ → ℕ → ℕ
next_after f n = cond (bad_file f) n (cond (not_there f n) n (n + 1))

abbrev pub told_reached : Result (Option Stored) Refusal → StepAnswer
told_reached (Ok (Some stored)) = message stored.retired (told_part stored.part)
told_reached (Ok None) = end
told_reached (Err r) = refused (told_golden_refusal r)

-- what `step` promises
abbrev pub Steps : List ℕ → ℕ → Stepping → Type 0
Steps f n r = (told_reached r.answer ≡ step_at f n) × (r.next ≡ next_after f n)

-- ---- the message of a record by its stored length alone, good or not

abbrev pub nowhere : Span
nowhere = record { place = 0; size = 0 }

unfoldable pub stored_message : List ℕ → ℕ → Span
stored_message f n = cond (bad_file f) nowhere (cond (not_there f n) nowhere (message_part f n))

-- what `stored_message` promises
abbrev pub Stores : List ℕ → ℕ → Part → Type 0
Stores f n r = told_part r ≡ stored_message f n
