pub mod Groups
pub mod Rows
