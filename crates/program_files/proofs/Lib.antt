mod Flawed
mod Seen
