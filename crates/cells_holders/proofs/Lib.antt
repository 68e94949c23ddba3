pub mod Paged
mod Joined
mod Stepping
mod Told
