-- What the code on the list says of two strings (`Compared`), of a string by the lent lists (`Lent`), of strings chained by digests (`Chains`), and of a
-- whole list (`Checks`).
pub mod Compared
pub mod Lent
pub mod Chains
pub mod Checks
