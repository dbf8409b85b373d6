-- What the search answers and leaves. The match itself and what it answers stand in the crates theory and meaning.
pub mod Outcomes
