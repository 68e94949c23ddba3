pub mod Parts
pub mod Files
pub mod Recovered
pub mod Answers
