-- K7: retired records. What a file without marks means, and what retiring one does, of the definitions and of the function's own answer.
-- Which refusals `retire` gives, and that a refused one keeps its buffer, is in Demand1.
use Rattle.golden.specs.Retired.{RetireMarksOne, RetiredIsWritten, RetiredStillPasses, RetireCountsOne, RetiredIsNotFound, OthersAreFound, NameIsWithdrawn, RetiredTwice, RetirePassesOn, RetirePointsShort}
use Rattle.golden.specs.WithoutMark.{UnmarkedMeansTheSame, PassedStillPasses, NoneRetired}
use Rattle.golden.proofs.CountLaws as count
use Rattle.golden.proofs.RetiredLaws as retired
use Rattle.golden.proofs.WithoutMarkLaws as unmarked

pub unmarked_means_the_same : UnmarkedMeansTheSame
unmarked_means_the_same = unmarked.unmarked_means_the_same

pub passed_still_passes : PassedStillPasses
passed_still_passes = unmarked.passed_still_passes

pub none_retired : NoneRetired
none_retired = count.none_retired

pub retire_marks_one : RetireMarksOne
retire_marks_one = retired.retire_marks_one

pub retired_is_written : RetiredIsWritten
retired_is_written = retired.retired_is_written

pub retired_still_passes : RetiredStillPasses
retired_still_passes = retired.retired_still_passes

pub retire_counts_one : RetireCountsOne
retire_counts_one = count.retire_counts_one

pub retired_is_not_found : RetiredIsNotFound
retired_is_not_found = retired.retired_is_not_found

pub others_are_found : OthersAreFound
others_are_found = retired.others_are_found

pub name_is_withdrawn : NameIsWithdrawn
name_is_withdrawn = retired.name_is_withdrawn

pub retired_twice : RetiredTwice
retired_twice = retired.retired_twice

pub retire_passes_on : RetirePassesOn
retire_passes_on = retired.retire_passes_on

pub retire_points_short : RetirePointsShort
retire_points_short = retired.retire_points_short
