-- Laws that the proofs of functions cite.
pub mod Lists
pub mod Lines
pub mod Taking
pub mod Following
