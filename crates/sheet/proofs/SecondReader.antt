-- K5: the two readers agree on every input, and the two ways to the sum on every list of bytes.
-- Of the definitions first, then of any answers that keep the promises of `read`, `judge` and `Judging::lowest`, and of those of the C interface.
use Rattle.judge.specs.Agreement.{ReadersAgree, AnswersAgree, LowestIsReadings, DividedIsCrc, BothSumsAgree}
use Rattle.judge.specs.Quotient.{IsDivision}
use Rattle.judge.proofs.AgreementLaws as agreement
use Rattle.judge.proofs.DivisionLaws as division
use Rattle.judge.proofs.QuotientLaws as quotient
use Rattle.exports.specs.Verdicts.{JudgeForCTellsReading}
use Rattle.exports.proofs.VerdictLaws as exports

pub readers_agree : ReadersAgree
readers_agree = agreement.readers_agree

pub answers_agree : AnswersAgree
answers_agree = agreement.answers_agree

pub lowest_is_readings : LowestIsReadings
lowest_is_readings = agreement.lowest_is_readings

pub judge_for_c_tells_reading : JudgeForCTellsReading
judge_for_c_tells_reading = exports.judge_for_c_tells_reading

-- ---- the division

pub divided_is_crc : DividedIsCrc
divided_is_crc = division.divided_is_crc

pub both_sums_agree : BothSumsAgree
both_sums_agree = division.both_sums_agree

-- dividend = quotient times divisor, plus a remainder of at most 32 digits
pub is_division : IsDivision
is_division = quotient.is_division
