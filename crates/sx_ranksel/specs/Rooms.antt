-- The words by which the bits of a bank are ranked and selected.
use Rattle.std.specs.Prelude.{◌≡◌, ℕ, List}
use Rattle.sx_ranksel.specs.Directory.{directory_of, number_at}
use Rattle.sx_ranksel.specs.Groups.{AreGroups}

-- three lists are the directories of so many bits from a word on
pub record AreDirectories (words : List ℕ) (first bits : ℕ) (directory groups places : List ℕ) : Type 0 where
  pub listed : directory ≡ directory_of bits (number_at first words)
  pub grouped : AreGroups bits (number_at first words) groups places
