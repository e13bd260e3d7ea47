-- A line beside the last key.
use Rattle.std.proofs.Common.{◌≡◌, ℕ, zero, suc, ◌+◌, ◌-◌, Bool, ◌||◌, true, false, List, [], ◌∷◌, length, drop, Some, None, refl, sym, ap, ◌∙◌, arith}
use Rattle.std.specs.Prelude.{slice_get}
use Rattle.std.specs.List.{list_any}
use Rattle.std.specs.declared.cmp.Ordering.{Ordering}
use Rattle.std.proofs.lemmas.List.{drop_all}
use Rattle.sx_spec_strings.specs.Bits.{bytes_cmp}
use Rattle.sx_spec.specs.Keys.{compares_to_last}
use Rattle.sx_bits.specs.KeyLists.{passes}

at_drop : {X : Type 0} (xs : List X) (n : ℕ) (x : X) → slice_get xs n ≡ Some x → drop n xs ≡ x ∷ drop (suc n) xs
at_drop [] n x at = absurd cc
at_drop (y ∷ xs) zero x at = let same : y ≡ x = cc in ap (λ z. z ∷ xs) same
at_drop (y ∷ xs) (suc n) x at = at_drop xs n x at

or_false : (b : Bool) → (b || false) ≡ b
or_false true = refl
or_false false = refl

-- there is none
pub no_last : (test : Ordering → Bool) (keys : List (List ℕ)) (line : List ℕ) → length keys ≡ 0 → compares_to_last test keys line ≡ passes test None
no_last test [] line none = refl
no_last test (key ∷ keys) line none = absurd (omega (arith, none))

-- there is one
pub by_last : (test : Ordering → Bool) (keys : List (List ℕ)) (line key : List ℕ) (n : ℕ) (order : Ordering) → n + 1 ≡ length keys → slice_get keys n ≡ Some key → order ≡ bytes_cmp line key
    → compares_to_last test keys line ≡ passes test (Some order)
by_last test keys line key n order last at is =
    let index : length keys - 1 ≡ n = omega arith in
    let past : drop (suc n) keys ≡ [] = drop_all (suc n) keys (omega arith) in
    let alone : drop n keys ≡ key ∷ [] = at_drop keys n key at ∙ ap (λ (ks : List (List ℕ)). key ∷ ks) past in
    ap (λ i. list_any (λ k. test (bytes_cmp line k)) (drop i keys)) index
    ∙ ap (list_any (λ k. test (bytes_cmp line k))) alone ∙ or_false (test (bytes_cmp line key)) ∙ ap test (sym is)
