-- Names that contracts, laws and proofs use of sets as words. What a member is stands in the crate meaning.
pub mod Words
pub mod Members
