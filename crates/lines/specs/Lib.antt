-- Names that contracts use. What the program writes stands in the crate meaning.
pub mod Lines
pub mod Lengths
pub mod Filling
pub mod Spans
