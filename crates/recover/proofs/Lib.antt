mod Crashed
mod WithoutTexts
