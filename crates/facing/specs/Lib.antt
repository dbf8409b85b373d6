-- Names that contracts use.
pub mod Faced
pub mod Gathering
pub mod Notes
