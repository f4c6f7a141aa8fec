pub mod Out
pub mod Reports
pub mod NodeLine
pub mod Row
pub mod Parameters
pub mod Advertised
