mod Turned
mod Clocks
mod Counted
mod Inputs
