mod Falls
mod BodyByBody
mod Greatest
mod Syncing
mod Reopening
mod Twice
mod GivingBack
pub mod VoidFollows
pub mod WorldReads
