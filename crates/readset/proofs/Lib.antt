pub mod CellsOf
pub mod Numbers
pub mod HoldsChanges
pub mod MoreReads
pub mod WrittenRecords
mod Lookups
mod Search
mod Placed
mod Ordered
pub mod Entries
pub mod TwoKinds
mod Sets
pub mod NarrowOrWide
pub mod WritesListed
mod Loaded
pub mod UnderWay
mod RowRead
