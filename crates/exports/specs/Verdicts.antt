-- The judge as C sees it: a verdict for each rule as a number, in the order of the rules, the places of the broken ones, and the lowest broken one in the answer.
-- The verdicts themselves are those of the crate `judge`. It is never refused.
use Rattle.std.specs.Prelude.{ℕ, List, [], ◌∷◌, ◌≡◌}
use Rattle.envelope.specs.Promise.{Bytes}
use Rattle.judge.specs.Rules.{RuleAnswer, kept, broken, not_judged, RuleAnswers, judging, broken_rules, LowestAnswer, none_broken, lowest, lowest_of}
use Rattle.exports.specs.Envelopes.{ReadsForC}
use Rattle.exports.specs.Word.{Slots, slots, word, done, unword}

abbrev pub verdict_number : RuleAnswer → ℕ
verdict_number kept = 0
verdict_number (broken place) = 1
verdict_number not_judged = 2

abbrev pub verdict_numbers : RuleAnswers → List ℕ
verdict_numbers j =
    verdict_number j.least ∷ verdict_number j.version ∷ verdict_number j.flags ∷ verdict_number j.variable_size
    ∷ verdict_number j.length ∷ verdict_number j.addresses ∷ verdict_number j.integrity ∷ []

-- 0 where the rule is not broken
abbrev pub place_number : RuleAnswer → ℕ
place_number kept = 0
place_number (broken place) = place
place_number not_judged = 0

abbrev pub place_numbers : RuleAnswers → List ℕ
place_numbers j =
    place_number j.least ∷ place_number j.version ∷ place_number j.flags ∷ place_number j.variable_size
    ∷ place_number j.length ∷ place_number j.addresses ∷ place_number j.integrity ∷ []

-- the slot of reading's number has the lowest broken one, and the value its place; both are 0 where none is broken
abbrev pub lowest_slots : LowestAnswer → Slots
lowest_slots none_broken = done
lowest_slots (lowest r) = slots 0 r.number 0 r.place

abbrev pub judge_slots : RuleAnswers → Slots
judge_slots j = lowest_slots (lowest_of (broken_rules j))

-- what `morlewen_judge` promises
abbrev pub JudgesForC : List ℕ → ℕ → List ℕ → Type 0
JudgesForC bytes r exit = (r ≡ word (judge_slots (judging bytes))) × (exit ≡ verdict_numbers (judging bytes))

-- what is lent to `morlewen_judge_places`
pub record VerdictLent : Type 0 where
  pub verdicts : List ℕ
  pub places : List ℕ

abbrev pub verdict_lent : (verdicts places : List ℕ) → VerdictLent
verdict_lent verdicts places = record { verdicts = verdicts; places = places }

-- what `morlewen_judge_places` promises
abbrev pub JudgesPlacesForC : List ℕ → ℕ → VerdictLent → Type 0
JudgesPlacesForC bytes r exit =
    (r ≡ word (judge_slots (judging bytes))) × (exit ≡ verdict_lent (verdict_numbers (judging bytes)) (place_numbers (judging bytes)))

-- the number and the place in those slots are those with which `morlewen_read` answers the same bytes
abbrev pub JudgeForCTellsReading : Type 0
JudgeForCTellsReading =
    (bytes fields after : List ℕ) (answer judgement : ℕ) (verdicts : List ℕ) → Bytes bytes → ReadsForC bytes fields answer after → JudgesForC bytes judgement verdicts
    → ((unword judgement).reading ≡ (unword answer).number) × ((unword judgement).value ≡ (unword answer).value)
