pub mod Header
pub mod HeaderReading
