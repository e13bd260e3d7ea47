-- Answers for prefixes are kept as far as two keys begin alike.
use Rattle.std.proofs.Common.{◌≡◌, ℕ, zero, suc, ◌<◌, ◌≤◌, List, [], ◌∷◌, length, take, None, refl, sym, ap, subst, ◌∙◌, arith, inl, inr}
use Rattle.std.specs.Prelude.{slice_set}
use Rattle.std.proofs.lemmas.Bool.{cases_eq, cases_lt}
use Rattle.std.proofs.lemmas.List.{get_or-set_same, get_or-set_other, get_or_past, take-take}
use Rattle.sx_spec_strings.specs.Bits.{Bits, common_prefix}
use Rattle.sx_spec_strings.proofs.BitLaws.{common_begins_left, common_begins_right, begins_length}
use Rattle.sx_spec_kinds.specs.Zfast.{HandleMap, probed_node}
use Rattle.sx_spec_kinds.proofs.NameLaws.{take_of_begins}
use Rattle.sx_zfast.specs.declared.memo.Known.{Known}
use Rattle.sx_zfast.specs.Memo.{known_at, IsKnown, AreKnown, IsKept}

abbrev nothing : Known
nothing = record { len = 0; answer = None }

nothing_known : (m : HandleMap) (x : Bits) (k : Known) → k.len ≡ 0 → IsKnown m x k
nothing_known m x k none = record { within = omega arith; answer = λ some. absurd (omega arith) }

-- one answer
kept_known : (m : HandleMap) (x y : Bits) (shared : ℕ) (old new : Known) → IsKnown m x old → shared ≤ length y → take shared x ≡ take shared y → IsKept shared old new → IsKnown m y new
kept_known m x y shared old new h long same (inr none) = nothing_known m y new none
kept_known m x y shared old new h long same (inl k) =
    let few = k.1 in
    let prefix : take old.len x ≡ take old.len y =
    sym (take-take old.len shared x few) ∙ ap (take old.len) same ∙ take-take old.len shared y few
    in
    subst (IsKnown m y) (sym k.0)
    (record { within = omega arith; answer = λ some. h.answer some ∙ ap (probed_node m) prefix })

-- all
pub all_kept : (m : HandleMap) (x y : Bits) (shared : ℕ) (old new : List Known) → ((i : ℕ) → i < length old → IsKept shared (known_at old i) (known_at new i)) → length new ≡ length old → AreKnown m x old → shared ≤ length y → take shared x ≡ take shared y → AreKnown m y new
all_kept m x y shared old new each many h long same i =
    elim (cases_lt i (length old)) [
      | inl less ↦ kept_known m x y shared (known_at old i) (known_at new i) (h i) long same (each i less)
      | inr over ↦ nothing_known m y (known_at new i) (ap (λ (k : Known). k.len) (get_or_past new i nothing (omega arith)))
    ]

pub one_learned : (m : HandleMap) (x : Bits) (slots : List Known) (i : ℕ) (k : Known) → i < length slots → AreKnown m x slots → IsKnown m x k → AreKnown m x (slice_set slots i k)
one_learned m x slots i k inside h is j =
    elim (cases_eq j i) [
      | inl same ↦ subst (IsKnown m x) (sym (ap (known_at (slice_set slots i k)) same ∙ get_or-set_same slots i k nothing inside)) is
      | inr other ↦ subst (IsKnown m x) (sym (get_or-set_other slots i j k nothing other)) (h j)
    ]

-- two keys begin with what they have in common
pub same_front : (x y : Bits) (n : ℕ) → n ≡ length (common_prefix x y) → (take n x ≡ take n y) × (n ≤ length y)
same_front x y n size =
    let short = begins_length y (common_prefix x y) (common_begins_right x y) in (
      take_of_begins x (common_prefix x y) n (common_begins_left x y) (omega arith) ∙ sym (take_of_begins y (common_prefix x y) n (common_begins_right x y) (omega arith)),
      omega arith,
    )

-- as many slots in which nothing is known
nothings : ℕ → List Known
nothings zero = []
nothings (suc n) = nothing ∷ nothings n

nothing_at : (n i : ℕ) → known_at (nothings n) i ≡ nothing
unfolding nothings
nothing_at zero i = refl
nothing_at (suc n) zero = refl
nothing_at (suc n) (suc i) = nothing_at n i

none_known : (m : HandleMap) (x : Bits) (n : ℕ) → AreKnown m x (nothings n)
none_known m x n i = subst (IsKnown m x) (sym (nothing_at n i)) (nothing_known m x nothing refl)

pub none_at_first : (m : HandleMap) (x : Bits) (slots : List Known) → slots ≡ nothing ∷ nothing ∷ nothing ∷ nothing ∷ nothing ∷ nothing ∷ nothing ∷ nothing ∷ nothing ∷ nothing ∷ nothing ∷ nothing ∷ nothing ∷ nothing ∷ nothing ∷ nothing ∷ nothing ∷ nothing ∷ nothing ∷ nothing ∷ nothing ∷ nothing ∷ nothing ∷ nothing ∷ nothing ∷ nothing ∷ nothing ∷ nothing ∷ nothing ∷ nothing ∷ nothing ∷ nothing ∷ [] → AreKnown m x slots
unfolding nothings
none_at_first m x slots all = subst (AreKnown m x) (sym all) (none_known m x 32)
