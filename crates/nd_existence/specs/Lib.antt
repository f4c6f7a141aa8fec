pub mod Intervals
pub mod LinkIntervals
pub mod LinkPremises
