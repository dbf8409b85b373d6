-- Laws that the calls cite.
pub mod Checks
