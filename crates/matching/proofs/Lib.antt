pub mod Searching
pub mod Shifts
pub mod Tables
pub mod Finds
