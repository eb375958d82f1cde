-- Cases of K4, as equations about check and find: two records of one name, where they stand, and what stands beside them.
-- The checker computes them, in proofs/NameCases.
use Rattle.std.specs.Prelude.{ℕ, List, ◌++◌, ◌≡◌, set, replicate}
use Rattle.envelope.specs.Refusals.{plainly}
use Rattle.golden.specs.Checking.{counted, refused, checking}
use Rattle.golden.specs.Finding.{found, finding}
use Rattle.golden.specs.Making.{record_of}
use Rattle.golden.specs.Without26.{checking_without26}
use Rattle.sheet.specs.SmallFiles.{numbered, name, two, twice, broken, by25}

-- the same number under another type, 6001
abbrev pub other_type : List ℕ
other_type = record_of (numbered 1) ++ record_of (set (numbered 1) 2 0x71)

abbrev pub three_times : List ℕ
three_times = twice ++ record_of (numbered 1)

-- three records apart
abbrev pub far_apart_file : List ℕ
far_apart_file = two ++ record_of (numbered 3) ++ record_of (numbered 1)

-- with a record of zeros, which is bad by 23, between the two, and behind them
abbrev pub bad_between : List ℕ
bad_between = record_of (numbered 1) ++ replicate 512 0 ++ record_of (numbered 1)

abbrev pub bad_behind : List ℕ
bad_behind = twice ++ replicate 512 0

-- the later one has the name and is itself bad
abbrev pub bad_itself : List ℕ
bad_itself = record_of (numbered 1) ++ broken

pub record NameCases : Type 0 where
  -- the later is refused; the file passed without 26, and find stays as it is
  pub the_later : checking twice ≡ refused 1 (plainly 26)
  pub passed_before : checking_without26 twice ≡ counted 2
  pub finds_the_earlier : finding twice (name 1) ≡ found 0 1
  pub three_times_lem : checking three_times ≡ refused 1 (plainly 26)
  pub far_apart : checking far_apart_file ≡ refused 3 (plainly 26)
  -- type and number both make a name
  pub other_number : checking two ≡ counted 2
  pub other_type_lem : checking other_type ≡ counted 2
  -- the first record that is bad or repeats a name decides, and of one record 25 comes before 26
  pub bad_between_lem : checking bad_between ≡ refused 1 (plainly 23)
  pub bad_behind_lem : checking bad_behind ≡ refused 1 (plainly 26)
  pub bad_itself_lem : checking bad_itself ≡ refused 1 by25
