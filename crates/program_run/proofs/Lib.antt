mod Seats
mod Untold
mod Counted
