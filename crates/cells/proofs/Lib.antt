mod Halves
pub mod Rising
mod FirstPaged
mod Lengthened
mod Spent
pub mod Records
pub mod Grown
