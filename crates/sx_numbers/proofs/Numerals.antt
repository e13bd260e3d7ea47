-- Digits read one by one.
use Rattle.std.proofs.Common.{◌≡◌, ℕ, ◌+◌, ◌-◌, ◌*◌, ◌<◌, ◌≤◌, ◌^◌, Bool, true, false, ◌&&◌, List, [], ◌∷◌, length, drop, get_or, Some, None, ◌∙◌, refl, ap, arith}
use Rattle.std.proofs.lemmas.Bool.{le-ltb}
use Rattle.std.proofs.lemmas.List.{drop_more}
use Rattle.std.specs.Prelude.{fold, nat_lt, if◌then◌else◌}

-- a test of numbers that fails
pub not_less : (a b : ℕ) → b ≤ a → nat_lt a b ≡ false
not_less a b le = le-ltb a b le

-- the number that digits write after a number
abbrev pub digits_from : ℕ → List ℕ → ℕ
digits_from number text = fold (λ n c. 10 * n + (c - 48)) number text

-- it is no less than that number
pub digits_grow : (text : List ℕ) (number : ℕ) → number ≤ digits_from number text
digits_grow [] number = omega arith
digits_grow (c ∷ text) number = let rest = digits_grow text (10 * number + (c - 48)) in omega arith

-- a number that would grow too large
pub too_large : (digits : Bool) (text : List ℕ) (i number : ℕ) → digits_from 0 text ≡ digits_from number (drop i text) → i < length text → 2 ^ 64 ≤ 10 * number + (get_or text i 0 - 48)
    → None ≡ (if digits && nat_lt (digits_from 0 text) (2 ^ 64) then Some (digits_from 0 text) else None)
too_large digits text i number same lt large =
    let next = digits_grow (drop (i + 1) text) (10 * number + (get_or text i 0 - 48)) in
    let grown = same ∙ ap (digits_from number) (drop_more text i 0 lt) in
    let most : 2 ^ 64 ≤ digits_from 0 text = omega arith in
    let not_below = not_less (digits_from 0 text) (2 ^ 64) most in
    rw not_below (elim digits as (λ b. None ≡ (if b && false then Some (digits_from 0 text) else None)) [ true ↦ refl | false ↦ refl ])
