-- Laws that the proofs of functions cite, here and in the crates above.
--
-- lists of numbers and of bytes
pub mod Numbers
-- what the functions' steps come to
pub mod Stops
pub mod Rows
pub mod Writer
pub mod Answers
