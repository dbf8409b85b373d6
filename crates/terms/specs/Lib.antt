pub mod Kinds
pub mod Heads
pub mod Ends
pub mod Levels
pub mod Readings
pub mod Degrees
