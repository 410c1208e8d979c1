pub mod Tables
pub mod Matched
pub mod Searching
pub mod Matching
pub mod MatchingMut
