-- Laws that the proofs of functions cite.
pub mod Numbers
pub mod Places
pub mod Texts
pub mod Tags
pub mod Rows
pub mod Chunks
