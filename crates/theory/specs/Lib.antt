-- Matching modulo proximity, as published: ground terms and patterns as trees (`Tree`), a table and the degree of two terms (`Table`, `Pairs`),
-- what faces what (`Faces`), the sets, the degrees and what a match comes to (`Match`, `Verdict`), how lists of numbers write trees (`Read`,
-- `Decode`, `Stands`), and where lists that write none are at fault (`Faults`). `Least` has the words for least and most. What is proved of all this
-- stands in proofs/.
pub mod Tree
pub mod Table
pub mod Pairs
pub mod Least
pub mod Faces
pub mod Match
pub mod Verdict
pub mod Read
pub mod Faults
pub mod Decode
pub mod Stands
