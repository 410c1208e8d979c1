pub mod Asking
pub mod Fronts
pub mod Steps
pub mod Uniqueness
pub mod Histories
pub mod Moments
pub mod Runs
pub mod Offers
