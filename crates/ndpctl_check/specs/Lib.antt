pub mod Words
pub mod OptionText
pub mod MessageText
pub mod Telling
pub mod Check
