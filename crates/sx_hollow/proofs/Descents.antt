-- When a walk goes on from an inner node, and when it is lost there.
use Rattle.std.proofs.Common.{◌≡◌, ◌⊎◌, ℕ, zero, suc, ◌+◌, ◌-◌, ◌<◌, ◌≤◌, Bool, true, false, ◌==◌, ◌||◌, List, length, refl, sym, ap, ap₂, ◌∙◌, arith, inl, inr}
use Rattle.std.specs.Bool.{nat_le}
use Rattle.std.specs.List.{slice_index}
use Rattle.std.specs.Prelude.{if◌then◌else◌}
use Rattle.std.proofs.lemmas.Bool.{le-leb, lt-leb, eq-eqb, ne_eqb}
use Rattle.sx_spec.specs.Reply.{gaps}
use Rattle.sx_spec_strings.specs.Bits.{Bits, bit_at}
use Rattle.sx_hollow.specs.Tops.{IsEntryOf}
use Rattle.sx_hollow.specs.declared.top.Entry.{Entry}
use Rattle.sx_hollow.proofs.Gaps.{gap_at}
use Rattle.sx_spec_kinds.specs.Hollow.{Stand, Walk, goes, lost, descend, child, step, step_at}

-- one of three tests
lost_by_test : (a b c : Bool) (w : Walk) → (a ≡ true) ⊎ (b ≡ true) ⊎ (c ≡ true) → lost ≡ (if a || b || c then lost else w)
lost_by_test true b c w h = refl
lost_by_test false true c w h = refl
lost_by_test false false true w h = refl
lost_by_test false false false w (inl h) = absurd cc
lost_by_test false false false w (inr (inl h)) = absurd cc
lost_by_test false false false w (inr (inr h)) = absurd cc

module _ (left skip : ℕ) (x : Bits) (s : Stand) where
  lost_by : ((left == 0) ≡ true) ⊎ (nat_le s.leaves left ≡ true) ⊎ (nat_le (length x) (s.pos + skip) ≡ true) → lost ≡ descend left skip x s
  unfolding descend
  lost_by h = lost_by_test (left == 0) (nat_le s.leaves left) (nat_le (length x) (s.pos + skip)) (child s left (s.pos + skip) (bit_at x (s.pos + skip))) h

  -- no leaf to the left, no leaf to the right, or no bit to go by
  pub lost_at : (left ≡ 0) ⊎ (s.leaves ≤ left) ⊎ (length x ≤ s.pos + skip) → lost ≡ descend left skip x s
  lost_at (inl none) = lost_by (inl (eq-eqb left 0 none))
  lost_at (inr (inl all)) = lost_by (inr (inl (le-leb s.leaves left all)))
  lost_at (inr (inr short)) = lost_by (inr (inr (le-leb (length x) (s.pos + skip) short)))

  -- leaves on both sides, and a bit to go by
  pub goes_at : (left ≡ 0 → ⊥) → left < s.leaves → s.pos + skip < length x → descend left skip x s ≡ child s left (s.pos + skip) (bit_at x (s.pos + skip))
  unfolding descend
  goes_at some fewer inside =
      let a : (left == 0) ≡ false = ne_eqb left 0 some in
      let b : nat_le s.leaves left ≡ false = lt-leb s.leaves left fewer in
      let c : nat_le (length x) (s.pos + skip) ≡ false = lt-leb (length x) (s.pos + skip) inside in
      rw (a, b, c) refl

step_at_inner : (left skip : List ℕ) (x : Bits) (s : Stand) (n : ℕ) → 1 < n → step_at left skip x s n ≡ descend (slice_index left s.node) (slice_index skip s.node) x s
step_at_inner left skip x s zero h = absurd (omega arith)
step_at_inner left skip x s (suc zero) h = absurd (omega arith)
step_at_inner left skip x s (suc (suc n)) h = refl

-- a step from an inner node
pub step_inner : (left skip : List ℕ) (x : Bits) (s : Stand) → 1 < s.leaves → step left skip x (goes s) ≡ descend (slice_index left s.node) (slice_index skip s.node) x s
step_inner left skip x s more = step_at_inner left skip x s s.leaves more

-- a step by what two lists of sums hold of a node and of the next
pub step_by_sums : (lefts skips : List ℕ) (x : Bits) (s : Stand) (w : Walk) (left skip : ℕ) → 1 < s.leaves → s.node + 1 < length lefts → s.node + 1 < length skips → left ≡ slice_index lefts (s.node + 1) - slice_index lefts s.node → skip ≡ slice_index skips (s.node + 1) - slice_index skips s.node → w ≡ descend left skip x s → w ≡ step (gaps lefts) (gaps skips) x (goes s)
step_by_sums lefts skips x s w left skip more in_lefts in_skips left_is skip_is is =
    is
    ∙ ap₂ (λ l k. descend l k x s) (left_is ∙ sym (gap_at lefts s.node in_lefts)) (skip_is ∙ sym (gap_at skips s.node in_skips))
    ∙ sym (step_inner (gaps lefts) (gaps skips) x s more)

-- a step by what is kept of a node
pub step_by_entry : (left skip : List ℕ) (x : Bits) (s : Stand) (w : Walk) (e : Entry) → 1 < s.leaves → e.node ≡ s.node → IsEntryOf left skip e → w ≡ descend e.left e.skip x s → w ≡ step left skip x (goes s)
step_by_entry left skip x s w e more node kept is =
    is
    ∙ ap₂ (λ l k. descend l k x s) (kept.left_is ∙ ap (slice_index left) node) (kept.skip_is ∙ ap (slice_index skip) node)
    ∙ sym (step_inner left skip x s more)
