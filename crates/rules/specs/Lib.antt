pub mod Narrowing
pub mod Progressions
pub mod Refusals
pub mod Sweeping
pub mod Triples
pub mod Jobs
