-- Names that contracts use.
pub mod Rests
pub mod Passing
pub mod Cuts
