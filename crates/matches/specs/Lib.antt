-- What the match promises.
pub mod Matching
