-- Laws that the proofs of functions cite.
pub mod Behind
pub mod Kept
pub mod Once
pub mod PassingOver
pub mod Unused
