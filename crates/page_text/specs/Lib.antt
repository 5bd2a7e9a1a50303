pub mod Words
pub mod Decimal
pub mod ReadBack
pub mod Put
pub mod PutDecimal
