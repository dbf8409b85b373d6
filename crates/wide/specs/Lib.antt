pub mod Index
pub mod Laid
pub mod Shared
