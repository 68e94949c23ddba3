pub mod Elements
pub mod Numbered
mod LastMarks
mod Reaching
mod Within
mod Voids
mod WorkedFound
mod WorkedRebuilt
