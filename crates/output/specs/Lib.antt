-- Names that contracts use.
pub mod Pendings
pub mod Titles
pub mod Turns
