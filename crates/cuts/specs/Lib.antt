pub mod Checks
pub mod Current
