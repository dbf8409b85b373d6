-- Laws of the calls, that each promise allows one result, and that the calls ensure the promises.
pub mod Lists
pub mod OneTerm
pub mod Tied
