pub mod StartWords
pub mod NodeCommandWords
pub mod DeliveryWords
pub mod LinkCommandWords
pub mod LinkLines
pub mod LinkRuns
