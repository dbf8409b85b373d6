-- What the writer's functions say of their results: `Said` takes an answer to the meaning's words, the others are for the steps.
pub mod Said
pub mod Counted
pub mod Laid
