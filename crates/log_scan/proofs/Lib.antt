pub mod Along
pub mod Stepping
pub mod Walking
pub mod Fronts
pub mod SameFile
