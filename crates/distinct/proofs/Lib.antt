pub mod Choosing
pub mod Countings
pub mod Divisions
pub mod Narrowings
pub mod Siftings
pub mod Spreads
pub mod Tellings
