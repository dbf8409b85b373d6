-- That a part handed back is as long as is counted, that each promise allows one result, and that the exports ensure the promises.
pub mod Parts
pub mod OneCapi
pub mod Tied
