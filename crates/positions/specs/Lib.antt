-- Names that contracts use.
pub mod Position
pub mod Looked
