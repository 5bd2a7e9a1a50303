pub mod Promise
pub mod Totals
pub mod Steps
pub mod Entering
pub mod AsRow
pub mod Certified
pub mod Written
pub mod Promised
