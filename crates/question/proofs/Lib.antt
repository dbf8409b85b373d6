-- Laws that the proofs of functions cite, here and in the crates above.
pub mod Cutting
pub mod Spans
pub mod Asked
pub mod Answering
pub mod Served
