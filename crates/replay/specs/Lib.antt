-- Names that contracts use.
pub mod Batches
pub mod Turns
