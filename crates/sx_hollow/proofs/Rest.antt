-- What is left of a walk.
use Rattle.std.proofs.Common.{◌≡◌, ℕ, zero, suc, ◌<◌, ◌≤◌, List, length, Some, None, refl, sym, ap, ◌∙◌, arith, inr}
use Rattle.std.specs.List.{slice_index}
use Rattle.sx_spec_strings.specs.Numbers.{iterate}
use Rattle.sx_spec_strings.specs.Bits.{Bits}
use Rattle.sx_spec_strings.proofs.NumberLaws.{iterate_still}
use Rattle.sx_spec_kinds.specs.Hollow.{Stand, Walk, goes, ends, lost, step, step_at, end_of, walk_of}
use Rattle.sx_hollow.specs.Walks.{RestOf}
use Rattle.sx_hollow.proofs.Descents.{step_inner, lost_at}

module _ (left skip : List ℕ) (n : ℕ) (x : Bits) where
  pub rest_starts : (s : Stand) → s.node ≡ 0 → s.leaves ≡ n → s.first ≡ 0 → s.pos ≡ 0 → RestOf left skip n x (goes s) s.leaves
  unfolding walk_of
  rest_starts s node leaves first pos = record {
    turns = suc n;
    enough = omega arith;
    same = λ i. end_of (iterate (suc n) (step left skip x) (goes (record { node = node i; leaves = leaves i; first = first i; pos = pos i })));
  }

  rest_more : (turns : ℕ) (w next : Walk) (leaves fewer : ℕ) → leaves < turns → fewer < leaves → end_of (iterate turns (step left skip x) w) ≡ walk_of left skip n x → next ≡ step left skip x w → RestOf left skip n x next fewer
  rest_more zero w next leaves fewer enough less same is = absurd (omega arith)
  rest_more (suc turns) w next leaves fewer enough less same is = record {
    turns = turns;
    enough = omega arith;
    same = ap (λ v. end_of (iterate turns (step left skip x) v)) is ∙ same;
  }

  -- one step on
  pub rest_steps : (w next : Walk) (leaves fewer : ℕ) → RestOf left skip n x w leaves → fewer < leaves → next ≡ step left skip x w → RestOf left skip n x next fewer
  rest_steps w next leaves fewer h less is = rest_more h.turns w next leaves fewer h.enough less h.same is

  ends_in : (turns : ℕ) (w end : Walk) (leaves : ℕ) → leaves < turns → end ≡ step left skip x w → step left skip x end ≡ end → end_of (iterate turns (step left skip x) w) ≡ walk_of left skip n x → end_of end ≡ walk_of left skip n x
  ends_in zero w end leaves enough is still same = absurd (omega arith)
  ends_in (suc turns) w end leaves enough is still same =
      ap end_of (sym (iterate_still turns (step left skip x) end still))
      ∙ ap (λ v. end_of (iterate turns (step left skip x) v)) is
      ∙ same

  -- a step that is lost
  pub rest_lost : (w : Walk) (leaves : ℕ) → RestOf left skip n x w leaves → lost ≡ step left skip x w → None ≡ walk_of left skip n x
  rest_lost w leaves h is = ends_in h.turns w lost leaves h.enough is refl h.same

  -- no bit of the string is left
  pub rest_short : (s : Stand) → RestOf left skip n x (goes s) s.leaves → 1 < s.leaves → length x ≤ s.pos → None ≡ walk_of left skip n x
  rest_short s h more short =
      rest_lost (goes s) s.leaves h
      (lost_at (slice_index left s.node) (slice_index skip s.node) x s (inr (inr (omega arith)))
      ∙ sym (step_inner left skip x s more))

  step_at_leaf : (s : Stand) (leaves : ℕ) → leaves ≡ 1 → ends s.first ≡ step_at left skip x s leaves
  step_at_leaf s leaves one = rw one refl

  step_at_none : (s : Stand) (leaves : ℕ) → leaves ≡ 0 → lost ≡ step_at left skip x s leaves
  step_at_none s leaves none = rw none refl

  -- one leaf, or none
  pub rest_leaf : (s : Stand) → RestOf left skip n x (goes s) s.leaves → s.leaves ≡ 1 → Some s.first ≡ walk_of left skip n x
  rest_leaf s h one = ends_in h.turns (goes s) (ends s.first) s.leaves h.enough (step_at_leaf s s.leaves one) refl h.same

  pub rest_none : (s : Stand) → RestOf left skip n x (goes s) s.leaves → s.leaves ≡ 0 → None ≡ walk_of left skip n x
  rest_none s h none = rest_lost (goes s) s.leaves h (step_at_none s s.leaves none)
