mod Changed
mod Explained
