pub mod Keys
pub mod Places
pub mod Read
pub mod Runs
pub mod Sound
