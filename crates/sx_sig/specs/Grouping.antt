-- The numbers of signatures by chunk, and pairs of equal signatures.
use Rattle.std.specs.Prelude.{◌≡◌, ℕ, ◌+◌, ◌<◌, ◌≤◌, ◌==◌, List, [], length, map, filter, All, Contains, slice_index_or}
use Rattle.std.specs.List.{enumerate_from}
use Rattle.sx_spec.specs.declared.Signature.{Signature}
use Rattle.sx_spec.specs.Chunks.{chunk_of}

-- the numbers of the signatures in chunk j of 2 ^ c
abbrev pub chunk_numbers : ℕ → List Signature → ℕ → List ℕ
chunk_numbers c sigs j = map (λ p. p.0) (filter (λ p. chunk_of p.1 c == j) (enumerate_from 0 sigs))

-- ---- signatures by number, and pairs of equal ones

-- the signature of this number, or zero words past the last
abbrev pub sig_at : List Signature → ℕ → Signature
sig_at sigs n = slice_index_or sigs n (record { w0 = 0; w1 = 0; w2 = 0 })

-- a number with its signature
abbrev pub numbered : List Signature → ℕ → Signature × ℕ
numbered sigs n = (sig_at sigs n, n)

-- the two have these numbers, in this order, and equal signatures
pub record Follows (left right : Signature × ℕ) (first second : ℕ) : Type 0 where
  pub sig : Signature
  pub left_is : left ≡ (sig, first)
  pub right_is : right ≡ (sig, second)
  pub order : first < second

-- neighbours of a list have these two numbers, in this order, and equal signatures
pub record IsNeighbour (ordered : List (Signature × ℕ)) (first second : ℕ) : Type 0 where
  pub place : ℕ
  pub sig : Signature
  pub within : place + 1 < length ordered
  pub left : (d : Signature × ℕ) → slice_index_or ordered place d ≡ (sig, first)
  pub right : (d : Signature × ℕ) → slice_index_or ordered (place + 1) d ≡ (sig, second)
  pub order : first < second

-- two equal signatures, where `second` isn't the number of all
abbrev pub IsFound : List Signature → (first second : ℕ) → Type 0
IsFound sigs first second = second < length sigs → (first < second) × (sig_at sigs first ≡ sig_at sigs second)

-- the two numbers stand in one list
pub record StandTogether (lists : List (List ℕ)) (i j : ℕ) : Type 0 where
  pub list : ℕ
  pub within : list < length lists
  pub first : Contains (slice_index_or lists list []) i
  pub second : Contains (slice_index_or lists list []) j

-- no two equal signatures whose numbers stand in one list have a lesser second number
abbrev pub IsLeastFound : List Signature → List (List ℕ) → ℕ → Type 0
IsLeastFound sigs lists second = (i j : ℕ) → StandTogether lists i j → i < j → sig_at sigs i ≡ sig_at sigs j → second ≤ j

-- the lists hold numbers of signatures, and those of equal ones stand in one list
pub record GathersEqual (sigs : List Signature) (lists : List (List ℕ)) : Type 0 where
  pub inside : All (λ numbers. All (λ n. n < length sigs) numbers) lists
  pub together : (i j : ℕ) → i < j → j < length sigs → sig_at sigs i ≡ sig_at sigs j → StandTogether lists i j
