-- What each export promises, a file for each module of calls; `Answers` says how an answer goes out to C.
pub mod Answers
pub mod Tables
pub mod Terms
pub mod Matching
pub mod Writing
pub mod Saving
pub mod Marc
