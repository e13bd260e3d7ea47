-- Where a reader of an Elias-Fano list stands.
use Rattle.std.specs.Prelude.{◌≡◌, ℕ, List, slice_index}
use Rattle.sx_ef.specs.declared.cursor.Cursor.{Cursor}

-- at number i of items whose ones stand at these places
pub record IsCursor (places items : List ℕ) (i : ℕ) (c : Cursor) : Type 0 where
  pub place_is : c.place ≡ slice_index places i
  pub number_is : c.number ≡ slice_index items i
