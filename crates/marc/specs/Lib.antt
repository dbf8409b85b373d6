-- Headings from exchange records of MARC 21, framed by ISO 2709.
--
-- `Frame`: leader, directory and fields, and the tests of the frame with their places. `Subfields`: the parts of a field. `Known`: the list of
-- known strings, as it is lent. `Order`: lists whose strings rise. `Heading`: the refusals, and the three nodes. `Plain`: a record as one would
-- write it. `Reading`: what is said of all this; the proofs are in proofs/. For the program: `Stream`, the records of an input, and `Streaming`,
-- what is said of them; `ListFile`, the list as a file, and `Lists`, what is said of that; `Printed`, the text.
pub mod Frame
pub mod Subfields
pub mod Known
pub mod Order
pub mod Heading
pub mod Plain
pub mod Reading
pub mod Stream
pub mod Streaming
pub mod ListFile
pub mod Lists
pub mod Printed
