pub mod Machine
pub mod Events
pub mod State
pub mod Turns
pub mod Serial
pub mod Sections
pub mod Weaving
