-- The largest of some numbers, and the longest extent, beyond which no prefix leads to a node.
use Rattle.std.proofs.Common.{◌≡◌, ℕ, ◌+◌, ◌<◌, ◌≤◌, List, [], ◌∷◌, ◌++◌, length, take, Option, Some, None, refl, sym, ap, ◌∙◌, arith, inl, inr, add-one}
use Rattle.std.specs.Prelude.{max}
use Rattle.std.specs.List.{slice_index}
use Rattle.std.proofs.Math.Seq.{take-suc}
use Rattle.std.proofs.lemmas.Bool.{cases_lt}
use Rattle.std.proofs.lemmas.List.{get_or_past, take_all}
use Rattle.std.proofs.lemmas.List.Recursion.{max_bounds, max_push}
use Rattle.sx_spec_kinds.specs.Search.{reached}
use Rattle.sx_zfast.specs.Largest.{largest}
use Rattle.sx_zfast.proofs.MapNodes.{reached_short}

-- ---- the largest of a list

largest_push : (ns : List ℕ) (n : ℕ) → largest (ns ++ n ∷ []) ≡ max (largest ns) n
unfolding largest
largest_push ns n = max_push largest (λ x. x) refl (λ x xs. refl) ns n

largest_bounds : (ns : List ℕ) (i : ℕ) → i < length ns → slice_index ns i ≤ largest ns
unfolding largest
largest_bounds ns i within = max_bounds largest (λ x. x) refl (λ x xs. refl) ns i 0 within

pub largest_none : (ns : List ℕ) → 0 ≡ largest (take 0 ns)
unfolding largest
largest_none ns = refl

pub largest_more : (ns : List ℕ) (i most n next : ℕ) → i < length ns → most ≡ largest (take i ns) → n ≡ slice_index ns i → next ≡ max most n → next ≡ largest (take (i + 1) ns)
largest_more ns i most n next within so_far is larger =
    larger ∙ ap (λ (m : ℕ). max m n) so_far ∙ ap (max (largest (take i ns))) is
    ∙ sym (largest_push (take i ns) (slice_index ns i))
    ∙ ap largest (sym (take-suc ns i 0 within) ∙ ap (λ (k : ℕ). take k ns) (sym (add-one i)))

pub largest_whole : (ns : List ℕ) (i most : ℕ) → length ns ≤ i → most ≡ largest (take i ns) → most ≡ largest ns
largest_whole ns i most over so_far = so_far ∙ ap largest (take_all i ns over)

-- ---- lengths beyond it

beyond_all : (ns : List ℕ) (len i : ℕ) → largest ns < len → slice_index ns i < len
beyond_all ns len i beyond =
    elim (cases_lt i (length ns)) [
      | inl within ↦ let bound = largest_bounds ns i within in omega arith
      | inr past ↦ let none = get_or_past ns i 0 past in omega arith
    ]

pub reached_beyond : (ns : List ℕ) (len : ℕ) (o : Option ℕ) → largest ns < len → reached ns len o ≡ None
reached_beyond ns len None beyond = refl
reached_beyond ns len (Some v) beyond =
    sym (reached_short ns len (Some v) v refl (beyond_all ns len v beyond))
