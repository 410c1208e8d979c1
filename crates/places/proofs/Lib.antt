pub mod Digits
pub mod Families
pub mod Fronts
pub mod Picks
pub mod Rows
