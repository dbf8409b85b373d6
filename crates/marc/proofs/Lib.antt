-- What is proved of the definitions in specs/: strings (`Strings`, `Order`), the frame (`Frames`), subfields (`Parts`), the heading (`Headings`, `OneHeads`, `Unfit`),
-- and that a record as one writes it is read as it was written (`Digits`, `Entries`, `Plain`), through the whole call too (`Written`). `Places`: how high places are.
-- For the program: the records of an input (`Streams`, `Streaming`), those that are too long (`LongRecords`), the text (`Texts`), and the list file
-- (`Parting`, `Numerals`, `Lists`).
pub mod Strings
pub mod Order
pub mod Frames
pub mod Parts
pub mod Headings
pub mod OneHeads
pub mod Unfit
pub mod Digits
pub mod Entries
pub mod Plain
pub mod Written
pub mod Places
pub mod Streams
pub mod Streaming
pub mod Parting
pub mod Numerals
pub mod Lists
pub mod LongRecords
pub mod Texts
