pub mod Found
pub mod Numbers
pub mod Frames
pub mod Openings
pub mod Directories
