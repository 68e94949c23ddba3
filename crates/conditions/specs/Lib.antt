pub mod Finds
pub mod Report
pub mod Lines
pub mod Numbers
pub mod Sums
pub mod CustomerWalks
pub mod Steps
