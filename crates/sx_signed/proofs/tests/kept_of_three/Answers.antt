use Rattle.std.proofs.Common.{◌≡◌, ℕ, zero, suc, ◌<◌, List, [], ◌∷◌, get_or, refl, sym, ap, ◌∙◌, arith}
use Rattle.sx_signed.specs.Keeping.{ArePlaces}
use Rattle.sx_signed.proofs.tests.kept_of_three.Goals as goal

abbrev turned : List ℕ
turned = 2 ∷ 0 ∷ 1 ∷ []

within : (i : ℕ) → i < 3 → get_or turned i 0 < 3
within zero lt = omega arith
within (suc zero) lt = omega arith
within (suc (suc zero)) lt = omega arith
within (suc (suc (suc i))) lt = absurd (omega arith)

-- which number has this place
back : (i : ℕ) → i < 3 → get_or (1 ∷ 2 ∷ 0 ∷ []) (get_or turned i 0) 0 ≡ i
back zero lt = refl
back (suc zero) lt = refl
back (suc (suc zero)) lt = refl
back (suc (suc (suc i))) lt = absurd (omega arith)

are_places : ArePlaces turned
are_places = record {
  within = within;
  once = λ i j a b same. sym (back i a) ∙ ap (λ (p : ℕ). get_or (1 ∷ 2 ∷ 0 ∷ []) p 0) same ∙ back j b;
}

pub keep-requires-clause-places : goal.keep-requires-clause-places
keep-requires-clause-places c = are_places
