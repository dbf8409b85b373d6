-- Laws that the proofs of functions cite, and that a batch has one text.
pub mod Begins
pub mod OneText
pub mod Turning
