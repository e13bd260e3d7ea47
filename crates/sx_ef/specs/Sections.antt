-- The sums section at a place in words.
use Rattle.std.specs.Prelude.{ℕ, ◌+◌, ◌*◌, Bool, ◌&&◌, List, [], ◌∷◌, length, drop, Some, None, Result, Ok, Err, slice_index, ◌==◌}
use Rattle.sx_ef.specs.declared.section.Sums.{Sums}
use Rattle.sx_spec_strings.specs.First.{first_failing}
use Rattle.sx_spec.specs.Fields.{fields, is_zero_after, below_of, low_width, upper_bits, ones_of, words_number}
use Rattle.sx_spec.specs.Layout.{sums_of as sums_rule, sums_checks, section_size}
use Rattle.sx_ef.specs.Parts.{sums_of, low_part, upper_part, never_falls}

-- whether so many ones and these low bits are as many numbers that begin with 0, never fall and end below a number
abbrev pub is_sums_from_zero : ℕ → ℕ → ℕ → List ℕ → List ℕ → Bool
is_sums_from_zero count below l ones lows =
    length ones == count
    && (slice_index (sums_of l ones lows) 0 == 0
    && (never_falls (sums_of l ones lows)
    && below_of (sums_of l ones lows) == below))

-- the checks of the two parts at the front of words
abbrev pub part_checks : ℕ → ℕ → List ℕ → List (ℕ × Bool)
part_checks count below words =
    (15, is_zero_after (count * low_width count below) (low_part count below words) && is_zero_after (upper_bits count below) (upper_part count below words))
    ∷ (
      16,
      is_sums_from_zero count below (low_width count below)
          (ones_of (upper_bits count below) (words_number (upper_part count below words)))
          (fields (low_width count below) count (low_part count below words)),
    )
    ∷ []

-- the sums section at the front of the words from a place on
abbrev pub sums_at : ℕ → List ℕ → ℕ → Sums
sums_at count words at =
    let rest = drop at words in
    record { count = slice_index rest 0; below = slice_index rest 1; body = at + 2; after = at + section_size (sums_rule count) rest }

-- that section where the words from the place on pass its checks, or the number of the first check that fails
abbrev pub sums_found : ℕ → List ℕ → ℕ → Result Sums ℕ
sums_found count words at = elim (first_failing (sums_checks count (drop at words))) [
  | Some check ↦ Err check
  | None ↦ Ok (sums_at count words at)
]
