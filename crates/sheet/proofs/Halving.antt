-- K9: find by halving, of the function's own answer; which refusals it gives, how large its answer is, and what it passes on.
-- That its promise leaves one answer alone is golden's `only_halves`.
use Rattle.golden.specs.Gives.{HalvingGives, OrderGives}
use Rattle.golden.specs.Halved.{NeighboursSuffice, AscendsIsAscending, AscendingAscends, OrderGivesItsReason, NoFileOpensNone, EmptyOpensNone, OrderPassesOn, HalvedFindsTheSame, HalvedIsTrue, HalvedOpensEight, HalvingFindsFew, HalvingPointsShort, HalvingPassesOn}
use Rattle.golden.proofs.GivesLaws as gives
use Rattle.golden.proofs.HalvedLaws as halved
use Rattle.golden.proofs.HalvingLaws as halving
use Rattle.golden.proofs.OrderingLaws as ordering

pub halved_finds_the_same : HalvedFindsTheSame
halved_finds_the_same = halved.halved_finds_the_same

pub halved_is_true : HalvedIsTrue
halved_is_true = halved.halved_is_true

pub halved_opens_eight : HalvedOpensEight
halved_opens_eight = halved.halved_opens_eight

-- the order may be asked of neighbours alone
pub neighbours_suffice : NeighboursSuffice
neighbours_suffice = halving.neighbours_suffice

pub halving_gives : HalvingGives
halving_gives = gives.halving_gives

pub halving_finds_few : HalvingFindsFew
halving_finds_few = halved.halving_finds_few

pub halving_points_short : HalvingPointsShort
halving_points_short = halved.halving_points_short

pub halving_passes_on : HalvingPassesOn
halving_passes_on = halved.halving_passes_on

pub no_file_opens_none : NoFileOpensNone
no_file_opens_none = halved.no_file_opens_none

pub empty_opens_none : EmptyOpensNone
empty_opens_none = halved.empty_opens_none

-- ---- the order, as `ascending` answers it

pub ascends_is_ascending : AscendsIsAscending
ascends_is_ascending = ordering.ascends_is_ascending

pub ascending_ascends : AscendingAscends
ascending_ascends = ordering.ascending_ascends

pub order_gives_its_reason : OrderGivesItsReason
order_gives_its_reason = ordering.order_gives_its_reason

pub order_gives : OrderGives
order_gives = ordering.order_gives

pub order_passes_on : OrderPassesOn
order_passes_on = ordering.order_passes_on
