-- Laws that the proofs of functions cite, here and in the crates above.
pub mod Members
pub mod Standing
pub mod Sharing
pub mod Rating
