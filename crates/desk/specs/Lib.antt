pub mod Packing
pub mod Promise
pub mod Bounds
pub mod Writing
pub mod Handing
pub mod Checking
pub mod Unpacking
