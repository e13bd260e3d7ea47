-- The list section at a place in words.
use Rattle.std.specs.Prelude.{ℕ, ◌+◌, List, drop, Some, None, Result, Ok, Err, slice_index}
use Rattle.sx_fields.specs.declared.section.Section.{Section}
use Rattle.sx_spec_strings.specs.First.{first_failing}
use Rattle.sx_spec.specs.Layout.{list_of, list_checks, section_size}

-- the list section at the front of the words from a place on
abbrev pub list_at : ℕ → ℕ → ℕ → ℕ → List ℕ → ℕ → Section
list_at least most low high words at =
    let rest = drop at words in
    record {
      width = slice_index rest 1;
      count = slice_index rest 0;
      body = at + 2;
      after = at + section_size (list_of least most low high) rest;
    }

-- that section where the words from the place on pass its checks, or the number of the first check that fails
abbrev pub list_found : ℕ → ℕ → ℕ → ℕ → List ℕ → ℕ → Result Section ℕ
list_found least most low high words at = elim (first_failing (list_checks least most low high (drop at words))) [
  | Some check ↦ Err check
  | None ↦ Ok (list_at least most low high words at)
]
