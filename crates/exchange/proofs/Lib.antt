-- Laws that the proofs of functions cite; that the promise allows one result (`OneHeading`), and that the call ensures it (`Tied`).
pub mod Names
pub mod Calls
pub mod OneHeading
pub mod Tied
