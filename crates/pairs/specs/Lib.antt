pub mod Reads
pub mod InList
pub mod InBytes
