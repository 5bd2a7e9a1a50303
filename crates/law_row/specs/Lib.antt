pub mod Row
pub mod Duality
pub mod Clamp
pub mod Answers
pub mod Meets
pub mod Channels
pub mod Same
pub mod Along
