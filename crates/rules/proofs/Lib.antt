pub mod Narrowing
pub mod Progressions
pub mod Triples
