-- Names that contracts use. What is asked stands in the crate meaning.
pub mod Shapes
pub mod Rooms
