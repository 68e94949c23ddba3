pub mod Tearing
pub mod Moments
pub mod Staging
pub mod Appending
pub mod Opening
pub mod Refusing
