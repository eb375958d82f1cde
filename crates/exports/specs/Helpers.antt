-- The meaning of this crate's private types, an addressing as seven numbers and the slots of an answer, the order of the verdicts, and the rule that a number tells.
-- No promise of a public function cites it.
use Rattle.exports.specs.Envelopes.{EndNumbers}
use Rattle.exports.specs.Word.{Slots}
use Rattle.exports.specs.declared.answers.Slots as code
use Rattle.exports.specs.declared.envelopes.Ends.{Ends}
use Rattle.std.specs.Prelude.{ℕ, ◌≤◌, List, [], ◌∷◌, ◌≡◌, ◌≢◌, Option, Some, None}
use Rattle.envelope.specs.Told.{told_fault}
use Rattle.envelope.specs.declared.reader.Fault.{Fault}
use Rattle.judge.specs.declared.judging.Judging.{Judging}
use Rattle.judge.specs.declared.judging.Verdict.{Verdict}

abbrev pub told_ends : Ends → EndNumbers
told_ends e =
    record {
      addressed = e.addressed;
      ttl = e.ttl;
      qos = e.qos;
      source_place = e.source_place;
      source_size = e.source_size;
      destination_place = e.destination_place;
      destination_size = e.destination_size;
    }

abbrev pub told_slots : code.Slots → Slots
told_slots s = record { number = s.number; reading = s.reading; count = s.count; value = s.value }

abbrev pub verdicts_in_order : Judging → List Verdict
verdicts_in_order j = j.least ∷ j.version ∷ j.flags ∷ j.variable_size ∷ j.length ∷ j.addresses ∷ j.integrity ∷ []

-- 1 to 7 are the rules of reading, and no other number is one
abbrev pub NumbersAFault : ℕ → Option Fault → Type 0
NumbersAFault n (Some f) = told_fault f ≡ n
NumbersAFault n None = n ≢ 0 → 8 ≤ n

-- the numbers, where there are any, in place of those before
abbrev pub put_over : Option (List ℕ) → List ℕ → List ℕ
put_over (Some numbers) entry = numbers
put_over None entry = entry
