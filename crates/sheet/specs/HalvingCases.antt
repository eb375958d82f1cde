-- Cases of find by halving and of the order (K9), as equations about the definitions. The middle of two is the second, that of three too.
-- The checker computes them, in proofs/HalvingCases.
use Rattle.std.specs.Prelude.{ℕ, zero, suc, ◌+◌, List, [], ◌∷◌, ◌++◌, ◌≡◌, set}
use Rattle.envelope.specs.Refusals.{plainly}
use Rattle.golden.specs.Finding.{found, refused, finding}
use Rattle.golden.specs.Halving.{halving}
use Rattle.golden.specs.Making.{record_of}
use Rattle.golden.specs.Ordering.{ascends, breaks, ordering}
use Rattle.golden.specs.Ordering as order
use Rattle.golden.specs.Retiring.{marked}
use Rattle.sheet.specs.SmallFiles.{numbered, name, two, three, withdrawn, descending, twice, broken, by25}

-- so many records, numbered from a number on
unfoldable pub records_from : ℕ → ℕ → List ℕ
records_from n zero = []
records_from n (suc left) = record_of (numbered n) ++ records_from (n + 1) left

-- type 6001, number 1, behind type 6000, number 2
abbrev pub two_types : List ℕ
two_types = record_of (numbered 2) ++ record_of (set (numbered 1) 2 0x71)

pub record HalvingCases : Type 0 where
  pub upper : halving two (name 2) ≡ found 1 1
  pub lower : halving two (name 1) ≡ found 0 2
  pub middle_of_three : halving three (name 2) ≡ found 1 1
  pub last_of_three : halving three (name 3) ≡ found 2 2
  pub above_all : halving two (name 3) ≡ refused (plainly 27) 1
  pub below_all : halving two (name 0) ≡ refused (plainly 27) 2
  pub no_record : halving [] (name 1) ≡ refused (plainly 27) 0
  pub no_file : halving (7 ∷ []) (name 1) ≡ refused (plainly 21) 0
  pub bad_record : halving broken (name 1) ≡ refused by25 1
  -- a retired match ends it, and is not passed over
  pub retired_match : halving withdrawn (name 1) ≡ refused (plainly 27) 2
  pub ends_at_retired : halving (marked twice 1) (name 1) ≡ refused (plainly 27) 1
  -- out of order: its 27 says nothing about the record that it did not open
  pub finds : finding descending (name 2) ≡ found 0 1
  pub misses : halving descending (name 2) ≡ refused (plainly 27) 1

-- of 128 records the first takes eight openings; shown in proofs/EightOpenings
abbrev pub EightAreNeeded : Type 0
EightAreNeeded = halving (records_from 0 128) (name 0) ≡ found 0 8

pub record OrderCases : Type 0 where
  pub empty : ordering [] ≡ ascends
  pub in_order : ordering three ≡ ascends
  pub type_first : ordering two_types ≡ ascends
  pub with_a_retired_one : ordering withdrawn ≡ ascends
  pub falls_back : ordering descending ≡ breaks 1
  pub not_strictly : ordering twice ≡ breaks 1
  pub one_retired : ordering (marked twice 0) ≡ breaks 1
  pub no_file : ordering (7 ∷ []) ≡ order.refused 0 (plainly 21)
  -- a bad record is told when it is come to, and not before
  pub bad_record : ordering (two ++ broken) ≡ order.refused 2 by25
  pub breaks_before_it : ordering (descending ++ broken) ≡ breaks 1
