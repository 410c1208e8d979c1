pub mod Groups
pub mod Scopes
pub mod Divisions
