mod Good
mod Capped
mod Lawful
mod Beginning
