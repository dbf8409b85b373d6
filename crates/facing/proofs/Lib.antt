-- Laws that the proofs of functions cite, here and in the crates above.
pub mod Passing
pub mod Gathering
pub mod Faced
pub mod Numbers
