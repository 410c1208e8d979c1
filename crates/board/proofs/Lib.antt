pub mod Settlings
pub mod Trials
pub mod Groupings
