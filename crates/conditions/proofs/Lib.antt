mod SumSteps
mod Orderers
mod LineSteps
mod Numbered
pub mod Told
pub mod Searched
