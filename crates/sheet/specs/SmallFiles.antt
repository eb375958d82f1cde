-- Files of one to three records, of M with other numbers, one of them retired, and what check and find say of them.
-- The checker computes them, in proofs/SmallFiles.
use Rattle.std.specs.Prelude.{ℕ, List, ◌++◌, ◌≡◌, set}
use Rattle.envelope.specs.Fields.{refusal_by}
use Rattle.envelope.specs.Refusals.{Refused, passing_on}
use Rattle.golden.specs.Checking.{counted, checking}
use Rattle.golden.specs.Finding.{NameFields, found, finding}
use Rattle.golden.specs.Making.{record_of}
use Rattle.golden.specs.Retiring.{marked}
use Rattle.sheet.specs.Cases.{M}

-- M with another number, and its name
abbrev pub numbered : ℕ → List ℕ
numbered n = set M 11 n

abbrev pub name : ℕ → NameFields
name n = record { message_type = 6000; number = n }

abbrev pub two : List ℕ
two = record_of (numbered 1) ++ record_of (numbered 2)

abbrev pub three : List ℕ
three = two ++ record_of (numbered 3)

-- two with its first record retired
abbrev pub withdrawn : List ℕ
withdrawn = marked two 0

-- one in descending order
abbrev pub descending : List ℕ
descending = record_of (numbered 2) ++ record_of (numbered 1)

-- one name twice
abbrev pub twice : List ℕ
twice = record_of (numbered 1) ++ record_of (numbered 1)

-- a record whose message reading refuses: kind none with a field that is not 0
abbrev pub broken : List ℕ
broken = record_of (set (numbered 1) 20 1)

abbrev pub by25 : Refused
by25 = passing_on 25 (refusal_by 7 17)

pub record SmallFiles : Type 0 where
  pub two_pass : checking two ≡ counted 2
  pub withdrawn_passes : checking withdrawn ≡ counted 2
  pub finds_first : finding two (name 1) ≡ found 0 1
  pub finds_second : finding two (name 2) ≡ found 1 2
