pub mod Fields
pub mod Versions
pub mod Voids
pub mod Flaws
pub mod Fronts
pub mod Texts
