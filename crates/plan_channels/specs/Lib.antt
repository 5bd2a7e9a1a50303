pub mod Had
pub mod HandOut
pub mod Latest
pub mod Lists
pub mod Part
pub mod Stages
pub mod Turns
