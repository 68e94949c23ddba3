pub mod Beginning
pub mod WithoutTexts
