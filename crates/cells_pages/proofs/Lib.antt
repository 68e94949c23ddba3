pub mod Rising
pub mod Lists
mod Words
mod Fitting
mod Moves
mod ReaderMoves
mod PenMoves
mod SeatMoves
pub mod Starting
mod Seats
