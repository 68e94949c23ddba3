pub mod Tops
pub mod Opening
