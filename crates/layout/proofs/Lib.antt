pub mod AgreementLaws
pub mod OnlyLaws
