-- The function section at a place in words.
use Rattle.std.specs.Prelude.{ℕ, ◌+◌, List, drop, Some, None, Result, Ok, Err, slice_index}
use Rattle.sx_fields.specs.declared.section.Section.{Section}
use Rattle.sx_spec_strings.specs.First.{first_failing}
use Rattle.sx_spec.specs.Layout.{function_of, function_checks, section_size}

-- the function section at the front of the words from a place on
abbrev pub function_at : ℕ → ℕ → ℕ → ℕ → List ℕ → ℕ → Section
function_at least most low high words at =
    let rest = drop at words in
    record {
      width = slice_index rest 0;
      count = slice_index rest 1;
      body = at + 2;
      after = at + section_size (function_of least most low high) rest;
    }

-- that section where the words from the place on pass its checks, or the number of the first check that fails
abbrev pub function_found : ℕ → ℕ → ℕ → ℕ → List ℕ → ℕ → Result Section ℕ
function_found least most low high words at = elim (first_failing (function_checks least most low high (drop at words))) [
  | Some check ↦ Err check
  | None ↦ Ok (function_at least most low high words at)
]

-- how many words that section has at the front of the words, or the number of the first check that fails
abbrev pub size_found : ℕ → ℕ → ℕ → ℕ → List ℕ → Result ℕ ℕ
size_found least most low high words = elim (first_failing (function_checks least most low high words)) [
  | Some check ↦ Err check
  | None ↦ Ok (section_size (function_of least most low high) words)
]
