pub mod Texts
pub mod Changing
pub mod Back
