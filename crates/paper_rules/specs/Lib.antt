pub mod Ways
pub mod Plans
pub mod Channels
pub mod Best
pub mod Cuts
pub mod Prices
pub mod Operations
pub mod Figures
