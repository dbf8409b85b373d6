-- Names that contracts use. What is packed stands in the crate meaning.
pub mod Pack
