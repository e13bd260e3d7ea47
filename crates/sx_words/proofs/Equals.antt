-- A text cut at its first `=`.
use Rattle.std.proofs.Common.{◌≡◌, ℕ, ◌<◌, Bool, true, false, List, [], ◌∷◌, Option, Some, None, length, lit<, arith, refl}
use Rattle.std.specs.Prelude.{MatchOption, ◌==◌}
use Rattle.std.specs.List.{list_any, position_or_len}
use Rattle.std.proofs.lemmas.Str.Pattern.{IsSplitOnceResult, split_once_first}
use denote.Ref.{Bor}
use Rattle.sx_spec.specs.Command.{has_equals, before_equals, after_equals}

none_passes : (p : ℕ → Bool) (xs : List ℕ) → position_or_len p xs ≡ length xs → list_any p xs ≡ false
none_passes p [] e = refl
none_passes p (x ∷ xs) e = grind (arith, none_passes p xs)

one_passes : (p : ℕ → Bool) (xs : List ℕ) → position_or_len p xs < length xs → list_any p xs ≡ true
one_passes p [] lt = absurd (omega (arith, lt))
one_passes p (x ∷ xs) lt = grind (arith, one_passes p xs)

abbrev pub IsCut : List ℕ → Option (Bor (List ℕ) × Bor (List ℕ)) → Type 0
IsCut word r = MatchOption r (has_equals word ≡ false) (λ x. (has_equals word ≡ true) × (x.0.now ≡ before_equals word) × (x.1.now ≡ after_equals word))

-- the parts are what the two words say
pub parts_at : (word : List ℕ) (r : Option (Bor (List ℕ) × Bor (List ℕ))) → IsSplitOnceResult 61 word r → IsCut word r
parts_at word r is =
    let cut = split_once_first 61 word r is (lit< tt) in
    elim r as (λ o. MatchOption o (position_or_len (λ b. b == 61) word ≡ length word) (λ x. (position_or_len (λ b. b == 61) word < length word) × (x.0.now ≡ before_equals word) × (x.1.now ≡ after_equals word)) → IsCut word o) [
      | None ↦ λ none. none_passes (λ b. b == 61) word none
      | Some x ↦ λ some. (one_passes (λ b. b == 61) word some.0, some.1, some.2)
    ] cut
