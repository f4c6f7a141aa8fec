pub mod DigitLemmas
pub mod HexTexts
pub mod LongestRun
pub mod Words
pub mod Gaps
pub mod GroupLists
pub mod AddressTexts
pub mod RoundTrip
mod Lanes
mod Spelled
mod Passed
