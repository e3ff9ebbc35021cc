pub mod Direct
pub mod Flight
