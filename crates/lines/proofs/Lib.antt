-- Laws that the proofs of functions cite, here and in the crates above.
--
-- one line
pub mod Joined
-- from line to line
pub mod Seeking
pub mod Rest
pub mod Lengths
pub mod Turns
pub mod Spans
