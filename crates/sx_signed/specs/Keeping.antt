-- The numbers that are kept of signatures.
use Rattle.std.specs.Prelude.{◌≡◌, ℕ, ◌<◌, List, length}
use Rattle.std.specs.List.{slice_index_or}
use Rattle.sx_spec.specs.declared.Signature.{Signature}
use Rattle.sx_spec.specs.Reply.{top_bits}

-- what stands for a signature where there is none
abbrev pub no_signature : Signature
no_signature = record { w0 = 0; w1 = 0; w2 = 0 }

-- the places are the numbers below their count, each once
pub record ArePlaces (places : List ℕ) : Type 0 where
  pub within : (i : ℕ) → i < length places → slice_index_or places i 0 < length places
  pub once : (i j : ℕ) → i < length places → j < length places → slice_index_or places i 0 ≡ slice_index_or places j 0 → i ≡ j

-- at the place of each signature stand its highest bits
pub record AreKept (width : ℕ) (sigs : List Signature) (places items : List ℕ) : Type 0 where
  pub count : length items ≡ length sigs
  pub there : (i : ℕ) → i < length sigs → slice_index_or items (slice_index_or places i 0) 0 ≡ top_bits width (slice_index_or sigs i no_signature)
