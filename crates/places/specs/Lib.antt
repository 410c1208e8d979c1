pub mod Sets
pub mod Needles
pub mod Families
pub mod Fronts
pub mod Rising
