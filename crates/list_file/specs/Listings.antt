-- What is found in a list file: the list, as it is lent.
use Rattle.std.specs.Prelude.{◌≡◌, List, ℕ, ◌≤◌, length, take}
use Rattle.marc.specs.Known.{Known, known_in}
use Rattle.marc.specs.ListFile.{ListFile}
use Rattle.list_file.specs.declared.gathering.Listing.{Listing}

-- The file is this list's, and the first bytes of the text, with so many ends and numbers, are how it is lent.
pub record Gathered (file text ends numbers : List ℕ) (listing : Listing) : Type 0 where
  pub entries : List Known
  pub is : ListFile file listing.heading listing.absent entries
  pub lent : known_in (take listing.bytes text) (take listing.strings ends) (take listing.strings numbers) ≡ entries
  pub text_inside : listing.bytes ≤ length text
  pub ends_inside : listing.strings ≤ length ends
  pub numbers_inside : listing.strings ≤ length numbers
