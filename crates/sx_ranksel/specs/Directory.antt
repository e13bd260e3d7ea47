-- The counts that a directory keeps.
use Rattle.std.specs.Prelude.{ℕ, ◌+◌, ◌*◌, ◌/◌, List, length, map, drop}
use Rattle.std.specs.List.{range_with_len}
use Rattle.sx_spec.specs.Fields.{ones_of, words_number}

-- how many ones a number has below a bit
abbrev pub rank_of : ℕ → ℕ → ℕ
rank_of pos x = length (ones_of pos x)

-- the number that the words from a word on write, lowest first
abbrev pub number_at : ℕ → List ℕ → ℕ
number_at first words = words_number (drop first words)

-- the ones before each block of 512 bits, also before one that begins where the bits end
abbrev pub directory_of : ℕ → ℕ → List ℕ
directory_of bits x = map (λ block. rank_of (512 * block) x) (range_with_len 0 (bits / 512 + 1))
