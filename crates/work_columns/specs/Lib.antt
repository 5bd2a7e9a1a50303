pub mod Columned
pub mod Lending
pub mod Seam
