-- What a list of packed numbers is.
use Rattle.std.specs.Prelude.{ℕ, List}

-- numbers, each below 2 to the width
pub record Numbers : Type 0 where
  pub width : ℕ
  pub items : List ℕ
