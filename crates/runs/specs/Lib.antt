pub mod Calls
pub mod Laws
pub mod Notions
pub mod Recorded
pub mod Runs
pub mod Situations
