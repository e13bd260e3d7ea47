-- The directory by which a one is selected: a word for each group of 64 ones.
use Rattle.std.specs.Prelude.{◌≡◌, ℕ, min, ◌+◌, ◌-◌, ◌*◌, ◌/◌, ◌^◌, ◌<◌, ◌≤◌, List, length, slice_index}
use Rattle.std.specs.Int.{div_ceil}
use Rattle.sx_spec.specs.Fields.{ones_of}
use Rattle.sx_ranksel.specs.Directory.{rank_of}

-- the place of one number k
abbrev pub place_of : ℕ → ℕ → ℕ → ℕ
place_of bits x k = slice_index (ones_of bits x) k

-- the number of the last one of a group
abbrev pub last_in : ℕ → ℕ → ℕ → ℕ
last_in bits x group = min (64 * group + 63) (rank_of bits x - 1)

-- a group is short where its first and its last one lie in 30 words, and its word is the place of the first
pub record IsShort (bits x group word : ℕ) : Type 0 where
  pub place : word ≡ place_of bits x (64 * group)
  pub near : place_of bits x (last_in bits x group) / 64 < place_of bits x (64 * group) / 64 + 30

-- any other is long, and from where its word says on, the places of its ones are listed
pub record IsLong (bits x group listed : ℕ) (places : List ℕ) : Type 0 where
  pub far : place_of bits x (64 * group) / 64 + 30 ≤ place_of bits x (last_in bits x group) / 64
  pub within : listed + (last_in bits x group - 64 * group) < length places
  pub items : (i : ℕ) → i ≤ last_in bits x group - 64 * group
      → slice_index places (listed + i) ≡ place_of bits x (64 * group + i)

-- the top bit of a word says which of the two a group is
pub record IsGroup (bits x group word : ℕ) (places : List ℕ) : Type 0 where
  pub short : word < 2 ^ 63 → IsShort bits x group word
  pub long : 2 ^ 63 ≤ word → IsLong bits x group (word - 2 ^ 63) places

-- a word for each 64 ones
pub record AreGroups (bits x : ℕ) (words places : List ℕ) : Type 0 where
  pub count : length words ≡ div_ceil (rank_of bits x) 64
  pub groups : (group : ℕ) → group < length words → IsGroup bits x group (slice_index words group) places
