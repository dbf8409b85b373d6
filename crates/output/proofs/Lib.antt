-- Laws that the proofs of functions cite, here and in the crates above.
pub mod Titles
pub mod Saying
pub mod Going
pub mod Turning
