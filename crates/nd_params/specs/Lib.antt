pub mod RouterAdvertisement
pub mod History
pub mod ReachableTime
pub mod Params
pub mod ParamsKept
