-- Laws that the proofs of functions cite, here and in the crates above.
mod Halving
mod Placed
pub mod Listed
pub mod Narrowing
