-- Laws of the records, that the promise allows one result, and that the call ensures it.
pub mod Listing
pub mod Steps
pub mod OneRecords
pub mod Tied
