-- Values of 64 bits have a width of 64 at most.
use Rattle.std.proofs.Common.{ℕ, suc, ◌^◌, ◌<◌, ◌≤◌, List, [], ◌∷◌, get_or, sym, subst, inl, inr}
use Rattle.sx_spec_strings.specs.Ordered.{IsIn}
use Rattle.sx_spec.specs.Parts.{least_width}
use Rattle.sx_spec.proofs.Bounds.{least_width_le}

-- what holds at each place holds of each number
pub each_small : (m : ℕ) (xs : List ℕ) → ((i : ℕ) → get_or xs i 0 < m) → (x : ℕ) → IsIn xs x → x < m
each_small m [] small x i = elim i [ ]
each_small m (y ∷ xs) small x (inl e) = subst (λ (n : ℕ). n < m) (sym e) (small 0)
each_small m (y ∷ xs) small x (inr i) = each_small m xs (λ j. small (suc j)) x i

pub least_narrow : (values : List ℕ) → ((i : ℕ) → get_or values i 0 < 2 ^ 64) → least_width values ≤ 64
least_narrow values small = least_width_le 64 values (each_small (2 ^ 64) values small)
