mod Building
mod Defaults
mod Reading
