-- What the calls on tables promise.
pub mod Tables
pub mod Writing
