-- Words that are well formed.
use Rattle.std.proofs.Common.{◌≡◌, ℕ, Bool, true, false, ◌&&◌, length, Option, Some, None, ◌∙◌, refl, sym, ap}
use Rattle.std.specs.Prelude.{◌==◌, if◌then◌else◌}
use Rattle.std.proofs.lemmas.Bool.{eqb-true}
use Rattle.sx_spec.specs.Command.{Split, well_formed, are_single}

picked : (right single : Bool) (t s : Split) → (if right && single then Some t else None) ≡ Some s → (right ≡ true) × (t ≡ s)
picked true true t s e = (refl, cc)
picked true false t s e = absurd cc
picked false single t s e = absurd cc

-- they have so many positional words
pub formed_words : (count : ℕ) (o : Option Split) (s : Split) → well_formed count o ≡ Some s → length s.positional ≡ count
formed_words count None s e = absurd cc
formed_words count (Some t) s e =
    let right = picked (length t.positional == count) (are_single t.settings) t s e in
    ap (λ (u : Split). length u.positional) (sym right.1) ∙ eqb-true (length t.positional) count right.0
