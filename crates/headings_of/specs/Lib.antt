-- Names that contracts use.
pub mod Rooms
pub mod Texts
pub mod Turns
pub mod Endings
