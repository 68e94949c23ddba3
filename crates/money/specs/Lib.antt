pub mod Money
pub mod Payload
pub mod Refusal
pub mod Total
