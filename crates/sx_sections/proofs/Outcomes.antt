-- What a section's check comes to, by its first check that fails.
use Rattle.std.proofs.Common.{◌≡◌, ℕ, Option, Some, None, Result, Ok, Err, refl, sym, ap}

-- what stands where no check fails, or the first that does
abbrev pub outcome : {A : Type 0} → A → Option ℕ → Result A ℕ
outcome x (Some check) = Err check
outcome x None = Ok x

-- what is found says that no check fails
pub all_passed : {A : Type 0} (x y : A) (o : Option ℕ) → Ok y ≡ outcome x o → (o ≡ None) × (y ≡ x)
all_passed x y (Some check) e = absurd cc
all_passed x y None e = (refl, cc)

-- an error tells the first check that fails
pub one_failed : {A : Type 0} (x : A) (check : ℕ) (o : Option ℕ) → Err check ≡ outcome x o → o ≡ Some check
one_failed x check (Some other) e = let same : check ≡ other = cc in ap (λ (n : ℕ). Some n) (sym same)
one_failed x check None e = absurd cc
