-- The bytes of lines.
use Rattle.std.specs.Prelude.{ℕ, List, [], ◌∷◌, ◌++◌}
use Rattle.sx_spec.specs.Command.{Text}

-- the bytes of lines, a line feed behind each
abbrev pub fed : List Text → List ℕ
fed [] = []
fed (line ∷ lines) = line ++ 10 ∷ fed lines
