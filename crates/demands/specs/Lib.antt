-- The demands on the whole program, over any program whatever. `Program` says what a program is and what one promises; `Demand1`, `Demand2` and
-- `Demand3` are the three demands; `Further` is what else is said of the calls, with `Handed` on lists that are handed back, `NoTerm` on lists that are
-- refused, `Richer` on two tables, and `RecordHeadings` on headings read from exchange records.
-- `Public` ties all of it to the public calls: any results that their promises allow are such a program, with one of the two writers; `OnNumbers` has the
-- other. `ForC` does so for the calls as C sees them.
--
-- Each is one record, a statement a field. What a statement says of one result, or of two, is in words of the crate `meaning`: specs/Refusals (rows),
-- specs/Buffers (reading an answer), specs/Demands, specs/Tables, specs/Parts, specs/Matching, specs/TopCut; what it says of an exchange record, in words of
-- the crate `marc`, specs/Reading. proofs/Keeps has the one theorem, that a program which keeps its promises meets them all; proofs/Settles the other
-- direction, that a program which meets them keeps its promises.
pub mod Program
pub mod Handed
pub mod NoTerm
pub mod Demand1
pub mod Demand2
pub mod Demand3
pub mod Richer
pub mod RecordHeadings
pub mod Further
pub mod Public
pub mod OnNumbers
pub mod ForC
pub mod Unique
