-- Names that contracts use.
pub mod Coming
pub mod Found
pub mod Unreads
