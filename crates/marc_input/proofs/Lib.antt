-- Laws that the proofs of functions cite.
pub mod Following
pub mod Marks
pub mod PassedOver
pub mod Seeking
pub mod Said
pub mod Ends
pub mod Next
