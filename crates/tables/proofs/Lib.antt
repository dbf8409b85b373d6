-- That each promise allows one result, and that the calls ensure the promises.
pub mod OneTable
pub mod OneWriting
pub mod Tied
pub mod Tables
