pub mod Ending
pub mod Run
