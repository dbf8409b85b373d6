-- Laws that the proofs of functions cite, here and in the crates above.
pub mod Nodes
pub mod Steps
pub mod Ends
pub mod Spans
pub mod Levels
pub mod Readings
pub mod Degrees
