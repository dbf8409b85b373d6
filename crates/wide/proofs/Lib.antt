-- Laws that the proofs of functions cite.
pub mod Chains
mod Laying
mod Walking
mod Written
mod Sharing
mod Keeping
