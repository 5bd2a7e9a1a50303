pub mod Demand3
pub mod NotRead
pub mod AtDesk
pub mod Equal
pub mod EqualRefusals
pub mod EqualAtDesk
pub mod EqualPages
