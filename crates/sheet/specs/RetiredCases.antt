-- Cases of K7, as equations about the definitions: records with the mark, good and bad, and what each operation says of them.
-- The checker computes them, in proofs/RetiredCases.
use Rattle.std.specs.Prelude.{ℕ, true, false, List, ◌∷◌, ◌++◌, ◌≡◌, take, replicate}
use Rattle.envelope.specs.Refusals.{plainly}
use Rattle.golden.specs.Checking.{counted, refused, checking}
use Rattle.golden.specs.Comparing.{comparing}
use Rattle.golden.specs.Comparing as compare
use Rattle.golden.specs.Finding.{found, finding}
use Rattle.golden.specs.Finding as find
use Rattle.golden.specs.Listing.{line, entry_at, counting_retired}
use Rattle.golden.specs.Listing as listing
use Rattle.golden.specs.Retiring.{marked, done, retiring}
use Rattle.golden.specs.Retiring as retire
use Rattle.golden.specs.Stepping.{message, step_at}
use Rattle.sheet.specs.SmallFiles.{numbered, name, two, withdrawn, twice, broken, by25}

-- lengths of 20 and 511 with the mark
abbrev pub short_marked : List ℕ
short_marked = 0x80 ∷ 20 ∷ replicate 510 0

abbrev pub long_marked : List ℕ
long_marked = 0x81 ∷ 0xFF ∷ replicate 510 0

-- a record with the mark whose message reading refuses, and two good ones behind it
abbrev pub broken_marked : List ℕ
broken_marked = marked (broken ++ two) 0

pub record RetiredCases : Type 0 where
  -- the mark is no part of the length, and a bad record with it is bad
  pub withdrawn_passes : checking withdrawn ≡ counted 2
  pub short_marked_lem : checking short_marked ≡ refused 0 (plainly 23)
  pub long_marked_lem : checking long_marked ≡ refused 0 (plainly 23)
  pub broken_marked_lem : checking broken_marked ≡ refused 0 by25
  -- find passes over a retired record and counts it, and stops at a bad one
  pub withdrawn_name : finding withdrawn (name 1) ≡ find.refused (plainly 27) 2
  pub other_name : finding withdrawn (name 2) ≡ found 1 2
  pub stops_at_broken : finding broken_marked (name 2) ≡ find.refused by25 1
  -- one name live and retired, or retired twice, passes
  pub first_retired : checking (marked twice 0) ≡ counted 2
  pub second_retired : checking (marked twice 1) ≡ counted 2
  pub both_retired : checking (marked (marked twice 0) 1) ≡ counted 2
  pub finds_second : finding (marked twice 0) (name 1) ≡ found 1 2
  pub finds_first : finding (marked twice 1) (name 1) ≡ found 0 1
  -- the walk, the listing and the count of the retired
  pub steps_retired : step_at withdrawn 0 ≡ message true (record { place = 2; size = 21 })
  pub steps_live : step_at withdrawn 1 ≡ message false (record { place = 514; size = 21 })
  pub lists_retired : entry_at withdrawn 0 ≡ line 6000 1 21 true
  pub counts_retired : counting_retired withdrawn ≡ listing.counted 1
  pub counts_no_bad : counting_retired broken_marked ≡ listing.counted 0
  -- compare: 38 after 25 and before 31
  pub compares_retired : comparing withdrawn 0 (numbered 1) ≡ compare.refused (plainly 38)
  pub before_31 : comparing withdrawn 0 (take 20 (numbered 1)) ≡ compare.refused (plainly 38)
  pub after_25 : comparing broken_marked 0 (numbered 1) ≡ compare.refused by25
  -- retire: 22, 25, then 36, then 37, shorter or longer
  pub retires : retiring two 0 1024 ≡ done
  pub no_record : retiring two 2 1024 ≡ retire.refused (plainly 22)
  pub bad_record : retiring broken 0 512 ≡ retire.refused by25
  pub already : retiring withdrawn 0 1 ≡ retire.refused (plainly 36)
  pub too_short : retiring two 0 1023 ≡ retire.refused (plainly 37)
  pub too_long : retiring two 0 1025 ≡ retire.refused (plainly 37)
