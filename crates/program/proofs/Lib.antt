mod Beginnings
mod Beside
mod Details
mod Plain
