-- Laws on refusals that other crates cite.
pub mod One
