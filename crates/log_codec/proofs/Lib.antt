pub mod NumberTexts
pub mod Codecs
pub mod Filled
