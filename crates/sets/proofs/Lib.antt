-- What is proved of sets as words: `Laws`, `Word` and `Laying` are for other crates too, the others for the proofs of this crate's functions.
pub mod Word
pub mod Laws
pub mod Laying
pub mod Making
pub mod Next
