-- Names that contracts use.
pub mod Texts
