-- The pieces of the lines on a seed that doesn't work.
use Rattle.std.specs.Prelude.{ℕ, ◌+◌, List, [], ◌∷◌, ◌++◌, codes, decimal}
use Rattle.std.specs.List.{concat}
use Rattle.sx_spec.specs.Command.{Text}
use Rattle.sx_spec.specs.Messages.{spaced}
use Rattle.sx_static.specs.Answer.{witness_numbers}
use Rattle.sx_static.specs.declared.Witness.{Witness}

-- the seed and the part
abbrev pub place_of_part : ℕ → Text → Text
place_of_part seed part = concat (codes "seed " ∷ decimal seed ∷ codes ": part " ∷ part ∷ codes ": " ∷ [])

-- the beginning of a line
abbrev pub front_text : ℕ → Text → Text
front_text seed part = codes "sux: " ++ place_of_part seed part

-- what stands before the numbers of a try's witness
abbrev pub try_text : ℕ → ℕ → Text → Text
try_text chunk try word = concat (codes "chunk " ∷ decimal chunk ∷ codes ": try " ∷ decimal try ∷ codes ": " ∷ word ∷ [])

-- what is told of two strings
abbrev pub pair_text : ℕ → ℕ → Text
pair_text first second = concat (codes "strings " ∷ decimal first ∷ codes " and " ∷ decimal second ∷ codes " have one signature" ∷ (10 ∷ []) ∷ [])

-- the line on two strings with one signature
abbrev pub twins_text : ℕ → Text → ℕ → ℕ → Text
twins_text seed part first second = front_text seed part ++ pair_text first second

-- what is told of a try's witness
abbrev pub witness_text : ℕ → Text → ℕ → Witness → Text
witness_text chunk word try witness = try_text chunk try word ++ (spaced (witness_numbers witness) ++ 10 ∷ [])

-- the lines on the witnesses of tries, from a try on
abbrev pub tries_text : ℕ → Text → ℕ → Text → ℕ → List Witness → Text
tries_text seed part chunk word try [] = []
tries_text seed part chunk word try (w ∷ witnesses) =
    (front_text seed part ++ witness_text chunk word try w) ++ tries_text seed part chunk word (try + 1) witnesses
