mod Marks
mod Numbers
mod DigitTable
mod Spaces
mod Numerals
mod Amounts
mod Joined
mod OrderLines
mod LastNames
mod RequestLemmas
pub mod Cutting
pub mod OneText
