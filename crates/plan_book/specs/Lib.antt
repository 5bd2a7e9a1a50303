pub mod Promise
pub mod Held
pub mod Cases
