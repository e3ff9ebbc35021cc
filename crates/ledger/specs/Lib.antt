pub mod Meaning
pub mod Notions
pub mod Laws
