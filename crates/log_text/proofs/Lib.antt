mod Words
mod Looping
pub mod Texts
pub mod Fitting
pub mod Lawful
pub mod BodyTexts
pub mod OneFile
