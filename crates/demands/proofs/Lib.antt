-- What is proved of the statements in specs/, in an order in which it can be read. Each file begins with the reason why what it proves is so.
--
-- a program that keeps its promises meets every statement
pub mod Exact
pub mod Meant
pub mod Demand1
pub mod Drawn
pub mod Demands
pub mod Paired
pub mod Handed
pub mod NamedAlone
pub mod NoTerm
pub mod Stated
pub mod PackedAlike
pub mod Richer
pub mod RecordHeadings
pub mod Further
pub mod Keeps
pub mod Public
pub mod OnNumbers
pub mod Unique
-- every hypothesis can be met
pub mod Handing
pub mod Sayable
pub mod PossibleHeading
pub mod Possible
pub mod Lent
pub mod RecordExample
pub mod Instances
-- the calls for C are such a program
pub mod Decoded
pub mod ForC
-- wrong programs, and the statement at which each fails
pub mod Wrong
pub mod WrongRefusals
pub mod WrongHanded
pub mod WrongAbsent
pub mod WrongPlaces
pub mod WrongOwn
pub mod WrongRecords
pub mod WrongRicher
pub mod WrongAllowed
-- a program that meets the statements keeps its promises
pub mod Settled
pub mod SettledFiles
pub mod SettledRecords
pub mod SettledMatch
pub mod Settles
pub mod SettledForC
