-- The words of nodes that are kept.
use Rattle.std.proofs.Common.{◌≡◌, ℕ, zero, suc, ◌+◌, ◌*◌, ◌/◌, ◌%◌, ◌^◌, ◌<◌, ◌≤◌, List, [], ◌∷◌, ◌++◌, length, refl, ap, ◌∙◌, arith}
use Rattle.std.specs.Prelude.{⊤}
use Rattle.std.proofs.lemmas.List.{length-append}
use Rattle.std.specs.List.{slice_index}
use Rattle.sx_hollow.specs.Tops.{AreKept}

-- the same words, row by row
abbrev pub AreRows : (left skip : List ℕ) → List ℕ → Type 0
AreRows left skip [] = ⊤
AreRows left skip (low ∷ []) = ⊥
AreRows left skip (low ∷ high ∷ words) =
    (low / 2 ^ 32 ≡ slice_index left (low % 2 ^ 32)) × (high % 2 ^ 32 ≡ slice_index skip (low % 2 ^ 32)) × AreRows left skip words

module _ (left skip : List ℕ) where
  rows_push : (words : List ℕ) (low high : ℕ) → AreRows left skip words → low / 2 ^ 32 ≡ slice_index left (low % 2 ^ 32) → high % 2 ^ 32 ≡ slice_index skip (low % 2 ^ 32) → AreRows left skip (words ++ low ∷ high ∷ [])
  rows_push [] low high h is_left is_skip = (is_left, is_skip, tt)
  rows_push (a ∷ []) low high h is_left is_skip = absurd h
  rows_push (a ∷ b ∷ words) low high h is_left is_skip = (h.0, h.1, rows_push words low high h.2 is_left is_skip)

  -- one node more
  pub rows_more : (words : List ℕ) (node l s places : ℕ) → AreRows left skip words → node < 2 ^ 32 → s < 2 ^ 32 → l ≡ slice_index left node → s ≡ slice_index skip node → AreRows left skip (words ++ (node + 2 ^ 32 * l) ∷ (s + 2 ^ 32 * places) ∷ [])
  rows_more words node l s places h small short is_left is_skip =
      let number : node ≡ (node + 2 ^ 32 * l) % 2 ^ 32 = omega arith in
      let leaves : (node + 2 ^ 32 * l) / 2 ^ 32 ≡ l = omega arith in
      let bits : (s + 2 ^ 32 * places) % 2 ^ 32 ≡ s = omega arith in
      rows_push words (node + 2 ^ 32 * l) (s + 2 ^ 32 * places) h
      (leaves ∙ is_left ∙ ap (slice_index left) number)
      (bits ∙ is_skip ∙ ap (slice_index skip) number)

  -- the node whose words begin at a multiple of two
  row_at : (words : List ℕ) (i j : ℕ) → AreRows left skip words → j ≡ 2 * i → j + 1 < length words
      → (slice_index words j / 2 ^ 32 ≡ slice_index left (slice_index words j % 2 ^ 32)) × (slice_index words (j + 1) % 2 ^ 32 ≡ slice_index skip (slice_index words j % 2 ^ 32))
  row_at [] i j h is within = absurd (omega (arith, within))
  row_at (a ∷ []) i j h is within = absurd h
  row_at (a ∷ b ∷ words) i zero h is within = (h.0, h.1)
  row_at (a ∷ b ∷ words) i (suc zero) h is within = absurd (omega (arith, is))
  row_at (a ∷ b ∷ words) zero (suc (suc j)) h is within = absurd (omega (arith, is))
  row_at (a ∷ b ∷ words) (suc i) (suc (suc j)) h is within =
      let rest = row_at words i j h.2 (omega (arith, is)) (omega (arith, within)) in
      let one : suc (suc j) + 1 ≡ suc (suc (j + 1)) = omega arith in (
        rest.0,
        ap (λ n. slice_index (a ∷ b ∷ words) n % 2 ^ 32) one ∙ rest.1,
      )

  -- the rows of all nodes
  pub rows_kept : (words : List ℕ) → AreRows left skip words → AreKept left skip words
  rows_kept words h i within = row_at words i (2 * i) h refl within

  pub none_kept : AreKept left skip []
  none_kept i within = absurd (omega (arith, within))

-- the words of one node more
pub rows_longer : (words : List ℕ) (low high place : ℕ) → length words ≤ 2 * place → length (words ++ low ∷ high ∷ []) ≤ 2 * (place + 1)
rows_longer words low high place few =
    let more : length (words ++ low ∷ high ∷ []) ≡ length words + 2 = length-append words (low ∷ high ∷ []) in
    omega (arith, more, few)
