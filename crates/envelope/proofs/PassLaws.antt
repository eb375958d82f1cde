-- What it means that a refusal is passed on whole: where one carries a refusal of reading, that is what reading gave to these bytes.
-- The layers that pass refusals on show it of each of their answers.
use Rattle.std.proofs.Common.{◌≡◌, ℕ, List, ap, ◌∙◌, arith}
use Rattle.envelope.specs.Fields.{Refusal, refused}
use Rattle.envelope.specs.Reading.{reading}
use Rattle.envelope.specs.Refusals.{Refused, plainly, passing_on}

abbrev pub On : List ℕ → Refused → Type 0
On m x = (number : ℕ) (r : Refusal) → x ≡ passing_on number r → reading m ≡ refused r

-- one in which reading had no part carries none
pub on_plainly : (m : List ℕ) (n : ℕ) → On m (plainly n)
on_plainly m n number r e = absurd (let z : ◌≡◌ {A = ℕ} 0 1 = cc in omega arith)

pub on_passing : (m : List ℕ) (n : ℕ) (q : Refusal) → reading m ≡ refused q → On m (passing_on n q)
on_passing m n q e number r is = let whole : q ≡ r = cc in e ∙ ap refused whole
