-- Bytes that are cut at ends.
use Rattle.std.specs.Prelude.{◌≡◌, ℕ, ◌≤◌, List, [], ◌∷◌, slice_range}

-- the pieces of the bytes from start on, by their ends
abbrev pub cut : ℕ → List ℕ → List ℕ → List (List ℕ)
cut start [] bytes = []
cut start (end ∷ ends) bytes = slice_range bytes start end ∷ cut end ends bytes

-- the ends rise from start on, and the last one is stop
abbrev pub AreEnds : ℕ → List ℕ → ℕ → Type 0
AreEnds start [] stop = start ≡ stop
AreEnds start (end ∷ ends) stop = (start ≤ end) × AreEnds end ends stop
