-- The lowest of the broken rules: those looked at so far, in front of any that follow.
-- What `Judging::lowest` goes by.
use Rattle.std.specs.Prelude.{Option, Some, None}
use Rattle.std.specs.Option.{option_or}
use mathlib.Core.List.{List, []}
use mathlib.Core.Path.{◌≡◌, refl, ap, ◌∙◌}
use Rattle.envelope.specs.Fields as paper
use Rattle.envelope.specs.Told.{told_fault}
use Rattle.envelope.specs.declared.reader.Fault.{Fault}
use Rattle.envelope.specs.declared.reader.Refusal.{Refusal}
use Rattle.judge.specs.Helpers.{refused_as}
use Rattle.judge.specs.Rules.{listed, lowest_of}
use Rattle.judge.specs.Told.{told_verdict, told_lowest}
use Rattle.judge.specs.declared.judging.Verdict.{Verdict}
use Rattle.judge.specs.declared.judging.Verdict.TheVariants.{Kept, Broken, NotJudged}

-- x answers for the rules that k puts in front of a list
abbrev pub InFront : Option Refusal → (List paper.Refusal → List paper.Refusal) → Type 0
InFront x k = (o : Option Refusal) (rest : List paper.Refusal) → told_lowest o ≡ lowest_of rest → told_lowest (option_or x o) ≡ lowest_of (k rest)

or_assoc : (x y z : Option Refusal) → option_or (option_or x y) z ≡ option_or x (option_or y z)
or_assoc None y z = refl
or_assoc (Some r) y z = refl

one_rule : (v : Verdict) (fault : Fault) → InFront (refused_as v fault) (listed (told_verdict v) (told_fault fault))
one_rule Kept fault o rest e = e
one_rule (Broken place) fault o rest e = refl
one_rule NotJudged fault o rest e = e

module _ (v : Verdict) (fault : Fault) (r : Option Refusal) (er : r ≡ refused_as v fault) where
  pub first_rule : InFront r (listed (told_verdict v) (told_fault fault))
  first_rule o rest e = ap (λ (x : Option Refusal). told_lowest (option_or x o)) er ∙ one_rule v fault o rest e

  pub next_rule : (x y : Option Refusal) (k : List paper.Refusal → List paper.Refusal) → InFront x k → y ≡ option_or x r
      → InFront y (λ rest. k (listed (told_verdict v) (told_fault fault) rest))
  next_rule x y k f ey o rest e =
      ap (λ (z : Option Refusal). told_lowest (option_or z o)) ey
      ∙ ap told_lowest (or_assoc x r o)
      ∙ f (option_or r o) (listed (told_verdict v) (told_fault fault) rest) (first_rule o rest e)

pub all_rules : (x : Option Refusal) (k : List paper.Refusal → List paper.Refusal) → InFront x k → told_lowest x ≡ lowest_of (k [])
all_rules None k f = f None [] refl
all_rules (Some r) k f = f None [] refl
