pub mod KeysAt
mod Stepped
mod Placed
mod Joined
mod Recorded
mod Stored
mod Opening
