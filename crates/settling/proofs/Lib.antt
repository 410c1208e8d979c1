pub mod Agendas
pub mod Consistency
pub mod Counting
pub mod Laws
pub mod Outcomes
pub mod Waking
