mod Keeping
mod Putting
