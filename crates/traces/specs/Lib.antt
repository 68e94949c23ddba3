pub mod Told
pub mod Shown
pub mod Moments
pub mod First
