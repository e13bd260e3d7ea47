-- The values of a list in the order of their codes, where a value has its code, and which codes are escaped.
use Rattle.std.specs.Prelude.{ℕ, ◌+◌, ◌==◌, if◌then◌else◌, List, [], ◌∷◌, ◌++◌, map, Option, Some, None, unwrap_or}
use Rattle.std.specs.List.{position_or_len, list_any}
use Rattle.std.specs.declared.cmp.Reverse.{Reverse}
use Rattle.sx_spec_strings.specs.Ordered.{in_order}
use Rattle.sx_spec_kinds.specs.TwoStep.{frequency, comes_before}

-- a value behind its frequency
abbrev pub entry_of : (value count : ℕ) → Reverse ℕ × ℕ
entry_of value count = (record { 0 = count }, value)

abbrev pub value_at : Reverse ℕ × ℕ → ℕ
value_at e = e.1

abbrev pub count_at : Reverse ℕ × ℕ → ℕ
count_at e = e.0.0

-- a value and its count, the other way round
abbrev pub ranked_entry : ℕ × ℕ → Reverse ℕ × ℕ
ranked_entry e = entry_of e.0 e.1

-- a count to which so many are added; no count stays none where nothing is added
abbrev pub counted_more : (count : Option ℕ) (more : ℕ) → Option ℕ
counted_more count more = if more == 0 then count else Some (unwrap_or count 0 + more)

-- the different values in the order of their codes, each with its frequency
unfoldable pub ranking_of : List ℕ → List (Reverse ℕ × ℕ)
ranking_of values = map (λ v. entry_of v (frequency values v)) (in_order (comes_before values) values)

-- the place of a value in a table
unfoldable pub place_in : List ℕ → ℕ → Option ℕ
place_in table q =
    if list_any (λ u. u == q) table then Some (position_or_len (λ u. u == q) table) else None

-- the numbers of the codes that are the last one, where the first code has this number
unfoldable pub numbers_from : (last first : ℕ) (codes : List ℕ) → List ℕ
numbers_from last first [] = []
numbers_from last first (code ∷ codes) =
    (if code == last then first ∷ [] else []) ++ numbers_from last (first + 1) codes
