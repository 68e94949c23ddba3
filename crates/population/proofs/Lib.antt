mod NameIndexMade
mod NameRange
mod Listed
mod Columns
mod Rated
