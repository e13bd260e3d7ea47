-- Turns by the order of fragments.
use Rattle.std.proofs.Common.{◌≡◌, ℕ, Bool, true, false, [], ◌∷◌, refl, sym, ap, ◌∙◌}
use Rattle.std.specs.declared.cmp.Ordering.{Ordering}
use Rattle.std.specs.declared.cmp.Ordering.TheVariants.{Less, Equal, Greater}
use Rattle.std.specs.Ordering.{is_lt}
use Rattle.sx_spec_strings.specs.Bits.{Bits, bits_cmp, is_below}
use Rattle.sx_spec_strings.proofs.KeyBits.{tests_are_the_order}
use Rattle.sx_spec_kinds.specs.HollowDistributor.{follow, turn_left, turn_right, inner_turn, leaf_turn}

turn_by : Ordering → ℕ
turn_by Less = turn_left
turn_by Equal = follow
turn_by Greater = turn_right

by_order : (f own : Bits) → turn_by (bits_cmp f own) ≡ inner_turn own f
unfolding turn_by
by_order [] [] = refl
by_order [] (c ∷ own) = refl
by_order (b ∷ f) [] = refl
by_order (true ∷ f) (true ∷ own) = by_order f own
by_order (true ∷ f) (false ∷ own) = refl
by_order (false ∷ f) (true ∷ own) = refl
by_order (false ∷ f) (false ∷ own) = by_order f own

pub follow_by : (f own : Bits) (o : Ordering) → o ≡ bits_cmp f own → o ≡ Equal → follow ≡ inner_turn own f
unfolding turn_by
follow_by f own o is e = ap turn_by (sym e ∙ is) ∙ by_order f own

pub left_by : (f own : Bits) (o : Ordering) → o ≡ bits_cmp f own → o ≡ Less → turn_left ≡ inner_turn own f
unfolding turn_by
left_by f own o is e = ap turn_by (sym e ∙ is) ∙ by_order f own

pub right_by : (f own : Bits) (o : Ordering) → o ≡ bits_cmp f own → o ≡ Greater → turn_right ≡ inner_turn own f
unfolding turn_by
right_by f own o is e = ap turn_by (sym e ∙ is) ∙ by_order f own

leaf_by : (own f : Bits) (o : Ordering) (b : Bool) → o ≡ bits_cmp own f → is_lt o ≡ b → is_below own f ≡ b
leaf_by own f o b is e = tests_are_the_order.below own f ∙ ap is_lt (sym is) ∙ e

pub above_leaf : (own f : Bits) (o : Ordering) → o ≡ bits_cmp own f → is_lt o ≡ true → turn_right ≡ leaf_turn own f
above_leaf own f o is e = let less = leaf_by own f o true is e in rw less refl

pub at_leaf : (own f : Bits) (o : Ordering) → o ≡ bits_cmp own f → is_lt o ≡ false → turn_left ≡ leaf_turn own f
at_leaf own f o is e = let not = leaf_by own f o false is e in rw not refl
