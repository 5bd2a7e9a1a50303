pub mod Steps
pub mod Laying
pub mod Placing
pub mod Solving
pub mod Reordered
pub mod Arranging
