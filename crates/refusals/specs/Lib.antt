pub mod Codes
pub mod Checks
