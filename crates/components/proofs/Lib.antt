pub mod Closes
pub mod Cuts
pub mod Ends
pub mod Follows
pub mod Labels
pub mod Stacks
pub mod States
pub mod Walks
