pub mod Filled
pub mod Filling
pub mod Nth
pub mod Products
