pub mod Told
pub mod Changes
