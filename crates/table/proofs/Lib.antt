-- Laws that the proofs of functions cite, here and in the crates above.
pub mod Places
pub mod Rising
pub mod Pairs
pub mod Runs
pub mod Rows
pub mod Reading
