pub mod Division
pub mod Quotient
pub mod Rules
pub mod Told
pub mod Agreement
pub mod Helpers
