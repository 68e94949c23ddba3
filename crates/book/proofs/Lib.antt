pub mod RunNames
mod Checks
mod Held
mod Stores
pub mod Stamped
mod Sound
mod AboveTids
mod Loaded
mod Kept
mod Streams
mod Runs
mod Showing
pub mod Replaying
mod NextCommit
mod Loggable
mod Batched
mod NumberLeft
mod RefusedThere
mod Opened
mod Become
pub mod Executed
mod Found
mod TotalsKept
mod Reached
