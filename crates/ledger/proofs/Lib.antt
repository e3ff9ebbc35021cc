pub mod Changing
pub mod Recording
pub mod Filling
