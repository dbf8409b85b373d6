pub mod Told
pub mod Outcomes
