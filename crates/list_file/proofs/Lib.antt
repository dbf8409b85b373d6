-- Laws that the proofs of functions cite: numbers (`Numbers`), lines (`Ends`, `Fields`), and the list that grows by them (`Lending`, `Growing`).
pub mod Ends
pub mod Numbers
pub mod Fields
pub mod Lending
pub mod Growing
