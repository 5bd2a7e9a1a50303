pub mod Parts
pub mod Tests
pub mod Bits
