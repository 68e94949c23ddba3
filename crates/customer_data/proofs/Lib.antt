pub mod Packed
pub mod Texts
mod Laid
mod Fronts
pub mod Printable
