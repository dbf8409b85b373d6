-- Laws that the proofs of functions cite, that the promise allows one result, and that the call ensures it.
mod Widening
pub mod OneWidening
pub mod Tied
