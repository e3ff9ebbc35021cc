pub mod ListLaws
pub mod Listed
pub mod Words
