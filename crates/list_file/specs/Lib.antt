-- Names that contracts use.
pub mod Numerals
pub mod Lines
pub mod Listings
