-- That the exports, as C runs them, ensure the promises.
pub mod Tied
