-- Laws of the call, that its promise allows one result, and that the call ensures it.
pub mod Asked
pub mod Unwritten
pub mod OneMatch
pub mod Tied
