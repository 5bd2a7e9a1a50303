pub mod Promise
pub mod Turned
pub mod Choosing
pub mod Known
