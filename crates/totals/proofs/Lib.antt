mod Differs
mod Worded
mod Written
mod Keyed
pub mod Sums
mod Counted
mod Bought
mod OrdersKept
mod Fits
mod Follow
mod Wraps
mod Moving
mod Opened
mod Begin
mod Recorded
mod Uncounted
mod Wide
mod ByNumber
