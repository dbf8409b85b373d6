-- Laws that the proofs of functions cite, here and in the crates above.
pub mod Positions
pub mod Alone
pub mod Shared
