-- What is proved of the definitions in specs/, in an order in which it can be read.
--
-- the degree, read off lists and off faces
pub mod Lemmas
pub mod Flat
pub mod Score
-- matchers, sets, forms and degrees
pub mod Relabel
pub mod Draw
pub mod Matchers
pub mod Forms
pub mod Theorems
pub mod Verdict
pub mod Corollaries
pub mod More
pub mod Own
pub mod Richer
pub mod Place
pub mod Present
pub mod Taken
-- lists and the trees that they write
pub mod Reading
pub mod Levels
pub mod Begun
pub mod Reached
pub mod Decoding
pub mod Faults
-- tables of listed pairs
pub mod Pairs
-- at cut 1000
pub mod Identity
-- for the proofs of code: the walk's clauses, and loops along the pattern's list and the heading's
pub mod Steps
pub mod Rows
pub mod Along
pub mod Gathered
pub mod Growing
pub mod Noted
