pub mod Classes
pub mod Cqe
pub mod Reads
pub mod Steps
pub mod Words
pub mod Writes
