-- (`Chaining`) and of a search (`Seeking`).
pub mod Bytes
pub mod Words
pub mod Entries
pub mod Testing
pub mod Chaining
pub mod Seeking
