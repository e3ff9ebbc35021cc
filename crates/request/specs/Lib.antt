pub mod Admission
pub mod Completing
pub mod Progress
pub mod Words
