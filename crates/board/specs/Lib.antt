pub mod Book
pub mod Outcomes
pub mod Moments
pub mod Lent
