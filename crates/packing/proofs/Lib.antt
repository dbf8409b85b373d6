-- Laws that the proofs of functions cite, here and in the crates above.
pub mod Notes
pub mod Spans
pub mod Searching
pub mod Meeting
