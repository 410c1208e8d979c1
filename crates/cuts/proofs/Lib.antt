pub mod Carrying
pub mod Widths
