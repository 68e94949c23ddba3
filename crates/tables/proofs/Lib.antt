pub mod Orders
pub mod Same
pub mod KeyTests
pub mod Views
mod InTurn
pub mod Numbers
pub mod LookUps
pub mod Entries
pub mod Totals
pub mod OrderNumbers
pub mod Named
mod WorkedRows
