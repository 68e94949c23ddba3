mod Durable
pub mod NoMemory
mod Resumed
