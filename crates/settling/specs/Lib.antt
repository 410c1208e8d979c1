pub mod Agenda
pub mod Consistency
pub mod Refusals
pub mod Theorems
pub mod Waking
