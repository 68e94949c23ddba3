mod Steps
mod Tells
mod Least
mod Arms
