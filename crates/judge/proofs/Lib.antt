pub mod BackwardsLaws
pub mod DivisionLaws
pub mod QuotientLaws
pub mod StepLaws
pub mod VerdictLaws
pub mod AgreementLaws
pub mod OnlyLaws
pub mod LowestLaws
