pub mod Near
pub mod OnePass
