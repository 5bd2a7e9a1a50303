pub mod PricedLine
pub mod Lent
pub mod Tolls
pub mod Surplus
pub mod Sums
pub mod Above
pub mod Same
