-- A difference of neighbours by its number.
use Rattle.std.proofs.Common.{◌≡◌, ℕ, zero, suc, ◌+◌, ◌-◌, ◌<◌, List, [], ◌∷◌, length, refl, ap, ◌∙◌, arith}
use Rattle.std.specs.List.{slice_index}
use Rattle.sx_spec.specs.Reply.{gaps}

pub gap_at : (xs : List ℕ) (i : ℕ) → i + 1 < length xs → slice_index (gaps xs) i ≡ slice_index xs (i + 1) - slice_index xs i
gap_at [] i h = absurd (omega arith)
gap_at (x ∷ []) i h = absurd (omega arith)
gap_at (x ∷ y ∷ xs) zero h = refl
gap_at (x ∷ y ∷ xs) (suc i) h =
    let e : suc (i + 1) ≡ suc i + 1 = omega arith in
    gap_at (y ∷ xs) i (omega arith) ∙ ap (λ n. slice_index (x ∷ y ∷ xs) n - slice_index (y ∷ xs) i) e
