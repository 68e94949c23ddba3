pub mod Deck
pub mod Drawn
pub mod Drawing
pub mod Order
pub mod Settings
