pub mod CanCheck
pub mod Totals
pub mod Balance
pub mod Checked
pub mod WaysOut
pub mod OnTable
pub mod Demand3
