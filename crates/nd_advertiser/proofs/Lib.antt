pub mod Offering
pub mod Keyed
pub mod OptionList
pub mod ByRows
pub mod Dates
pub mod Medium
