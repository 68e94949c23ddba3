pub mod Looking
mod Knowing
pub mod Ordering
mod Rebuilding
pub mod Found
pub mod LawfulEntries
mod Ranges
mod RowsOfWords
pub mod LawfulWrites
pub mod HistoryWords
mod HistoryRows
mod OneAnswer
mod DiskByDisk
mod Halves
mod AllRead
mod Answering
mod HalvesOfFiles
pub mod SameFiles
