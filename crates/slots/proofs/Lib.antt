pub mod Setting
pub mod Finds
pub mod Chains
pub mod Kept
pub mod Insertion
pub mod Live
pub mod Removal
pub mod Lawful
