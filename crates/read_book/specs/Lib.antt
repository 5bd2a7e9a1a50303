pub mod Says
pub mod Series
pub mod Spans
pub mod Orders
pub mod WaysOut
pub mod Whole
pub mod Accepted
