pub mod Entries
pub mod Looks
pub mod Longest
pub mod Prefixes
pub mod Steps
