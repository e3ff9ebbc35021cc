pub mod Laying
pub mod ListLawful
