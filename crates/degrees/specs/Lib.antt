pub mod Sought
pub mod Rows
