-- A step of a walk that asks the function, and what is left of such a walk.
use Rattle.std.proofs.Common.{◌≡◌, ◌⊎◌, ℕ, zero, suc, ◌+◌, ◌-◌, ◌%◌, ◌^◌, ◌<◌, ◌≤◌, Bool, true, false, ◌==◌, ◌||◌, length, List, ◌++◌, take, drop, Some, None, refl, sym, ap, subst, ◌∙◌, arith, inl, inr}
use Rattle.std.specs.Bool.{nat_le}
use Rattle.std.specs.List.{slice_index}
use Rattle.std.specs.Prelude.{if◌then◌else◌, min}
use Rattle.std.proofs.lemmas.Bool.{le-leb, lt-leb, eq-eqb, ne_eqb, cases_lt}
use Rattle.std.proofs.lemmas.List.{take_all, length-drop}
use Rattle.sx_spec_strings.specs.Numbers.{iterate}
use Rattle.sx_spec_strings.specs.Bits.{Bits, bit_at, number_bits, tagged}
use Rattle.sx_spec_strings.proofs.NumberLaws.{iterate_still}
use Rattle.sx_spec_kinds.specs.Hollow.{Stand, Walk, goes, ends, lost, descend, child, end_of, start}
use Rattle.sx_spec_kinds.specs.HollowDistributor.{ask, ask_at, fragment_of, hollow_block, turn_at_inner, turn_at_leaf}
use Rattle.sx_bits.proofs.NumberBits.{bit_of_mod}
use Rattle.sx_hollow.proofs.Descents.{lost_at, goes_at}

-- ---- a walk that goes on has leaves

abbrev leaves_in : Walk → ℕ
leaves_in (goes s) = s.leaves
leaves_in (ends j) = 1
leaves_in lost = 1

child_some : (s : Stand) (left p : ℕ) (b : Bool) → 0 < left → left < s.leaves → 0 < leaves_in (child s left p b)
child_some s left p false some fewer = some
child_some s left p true some fewer = omega arith

descend_some : (left skip : ℕ) (x : Bits) (s : Stand) → 0 < left → left < s.leaves → 0 < leaves_in (descend left skip x s)
descend_some left skip x s some fewer =
    elim (cases_lt (s.pos + skip) (length x)) [
      | inl inside ↦
          subst (λ (w : Walk). 0 < leaves_in w)
          (sym (goes_at left skip x s (λ z. omega arith) fewer inside))
          (child_some s left (s.pos + skip) (bit_at x (s.pos + skip)) some fewer)
      | inr short ↦
          subst (λ (w : Walk). 0 < leaves_in w) (lost_at left skip x s (inr (inr short))) (omega arith)
    ]

-- no child is without leaves
pub goes_some : (left skip : ℕ) (x : Bits) (s t : Stand) → 0 < left → left < s.leaves → goes t ≡ descend left skip x s → 0 < t.leaves
goes_some left skip x s t some fewer is =
    subst (λ (w : Walk). 0 < leaves_in w) (sym is) (descend_some left skip x s some fewer)

-- ---- what is signed

-- the bits that are there of a fragment, where the skip counts if there are any
pub fragment_there : (x : Bits) (pos skip there k rest : ℕ) → k ≡ min skip rest → rest ≡ length x - pos → (0 < rest → skip ≡ there) → take k (drop pos x) ≡ fragment_of pos there x
fragment_there x pos skip there k rest cut left is =
    let size = length-drop pos x in
    elim (cases_lt there rest) [
      | inl less ↦
          let same = is (omega arith) in
          let k_is : k ≡ there = omega arith in
          ap (λ n. take n (drop pos x)) k_is
      | inr all ↦
          let whole : length (drop pos x) ≤ k =
          elim (cases_lt 0 rest) [
            | inl some ↦ let same = is some in omega arith
            | inr none ↦ omega arith
          ]
          in
          take_all k (drop pos x) whole ∙ sym (take_all there (drop pos x) (omega arith))
    ]

low_bits : (n k tag : ℕ) → n ≤ k → number_bits n (tag % 2 ^ k) ≡ number_bits n tag
unfolding number_bits
low_bits zero k tag h = refl
low_bits (suc n) k tag h =
    let bit = bit_of_mod tag k n (omega arith) in
    let rest = low_bits n k tag (omega arith) in
    rw (bit, rest) refl

-- of a tag the lowest 32 bits
pub tag_low : (tag : ℕ) (y : Bits) → tagged (Some (tag % 4294967296)) y ≡ tagged (Some tag) y
unfolding tagged
tag_low tag y = ap (λ bits. bits ++ y) (low_bits 32 32 tag (omega arith))

-- ---- a step

lost_by_tests : (a b : Bool) (w : Walk) → (a ≡ true) ⊎ (b ≡ true) → lost ≡ (if a || b then lost else w)
lost_by_tests true b w h = refl
lost_by_tests false true w h = refl
lost_by_tests false false w (inl h) = absurd cc
lost_by_tests false false w (inr h) = absurd cc

starts : (left skip : List ℕ) (turns : Bits → ℕ) (count : ℕ) (x : Bits) → 0 < count → end_of (iterate (suc count) (ask left skip turns count x) (start count)) ≡ hollow_block left skip turns count x
unfolding hollow_block
starts left skip turns zero x some = absurd (omega arith)
starts left skip turns (suc d) x some = refl

module _ (left skip : List ℕ) (turns : Bits → ℕ) (count : ℕ) (x : Bits) where
  -- the walk that asks the function
  abbrev asks : Walk → Walk
  asks = ask left skip turns count x

  lost_numbers : (s : Stand) (n : ℕ) → 1 < n → (slice_index left s.node ≡ 0) ⊎ (s.leaves ≤ slice_index left s.node) → lost ≡ ask_at left skip turns count x s n
  lost_numbers s zero h numbers = absurd (omega arith)
  lost_numbers s (suc zero) h numbers = absurd (omega arith)
  lost_numbers s (suc (suc n)) h (inl none) = lost_by_tests (slice_index left s.node == 0) (nat_le s.leaves (slice_index left s.node)) _ (inl (eq-eqb (slice_index left s.node) 0 none))
  lost_numbers s (suc (suc n)) h (inr all) = lost_by_tests (slice_index left s.node == 0) (nat_le s.leaves (slice_index left s.node)) _ (inr (le-leb s.leaves (slice_index left s.node) all))

  -- no leaf to the left, or none to the right
  pub ask_lost : (s : Stand) (l : ℕ) → 1 < s.leaves → l ≡ slice_index left s.node → (l ≡ 0) ⊎ (s.leaves ≤ l) → lost ≡ asks (goes s)
  ask_lost s l more is (inl none) = lost_numbers s s.leaves more (inl (sym is ∙ none))
  ask_lost s l more is (inr all) = lost_numbers s s.leaves more (inr (omega arith))

  turned_at : (s : Stand) (n : ℕ) → 1 < n → 0 < slice_index left s.node → slice_index left s.node < s.leaves → turn_at_inner (slice_index left s.node) (slice_index skip s.node) x s (turns (tagged (Some s.node) (fragment_of s.pos (slice_index skip s.node) x))) ≡ ask_at left skip turns count x s n
  turned_at s zero h some less = absurd (omega arith)
  turned_at s (suc zero) h some less = absurd (omega arith)
  turned_at s (suc (suc n)) h some less =
      let a : (slice_index left s.node == 0) ≡ false = ne_eqb (slice_index left s.node) 0 (λ z. omega arith) in
      let b : nat_le s.leaves (slice_index left s.node) ≡ false = lt-leb s.leaves (slice_index left s.node) less in
      rw (a, b) refl

  -- on by numbers of which the skip counts only where a bit is left
  same_descent : (s : Stand) (l bits there : ℕ) → s.pos ≤ length x → (s.pos < length x → bits ≡ there) → descend l bits x s ≡ descend l there x s
  same_descent s l bits there inside is =
      elim (cases_lt s.pos (length x)) [
        | inl some ↦ ap (λ n. descend l n x s) (is some)
        | inr none ↦
            sym (lost_at l bits x s (inr (inr (omega arith))))
            ∙ lost_at l there x s (inr (inr (omega arith)))
      ]

  same_turn : (s : Stand) (l bits there turn : ℕ) → s.pos ≤ length x → (s.pos < length x → bits ≡ there) → turn_at_inner l bits x s turn ≡ turn_at_inner l there x s turn
  same_turn s l bits there zero inside is = same_descent s l bits there inside is
  same_turn s l bits there (suc zero) inside is = refl
  same_turn s l bits there (suc (suc zero)) inside is = refl
  same_turn s l bits there (suc (suc (suc turn))) inside is = refl

  -- a step by the turn, where the function is asked with the bits that are there of a fragment
  pub ask_turn : (s : Stand) (l bits turn k rest : ℕ) (y : Bits) → 1 < s.leaves → s.pos ≤ length x
      → l ≡ slice_index left s.node → 0 < l → l < s.leaves
      → rest ≡ length x - s.pos → (0 < rest → bits ≡ slice_index skip s.node)
      → k ≡ min bits rest → y ≡ take k (drop s.pos x)
      → turn ≡ turns (tagged (Some s.node) y)
      → turn_at_inner l bits x s turn ≡ asks (goes s)
  ask_turn s l bits turn k rest y more inside l_is some fewer left_over is cut fragment answer =
      let there = slice_index skip s.node in
      let y_is : y ≡ fragment_of s.pos there x = fragment ∙ fragment_there x s.pos bits there k rest cut left_over is in
      same_turn s l bits there turn inside (λ h. is (omega arith))
      ∙ ap (λ n. turn_at_inner n there x s turn) l_is
      ∙ ap (turn_at_inner (slice_index left s.node) there x s) (answer ∙ ap (λ z. turns (tagged (Some s.node) z)) y_is)
      ∙ turned_at s s.leaves more (omega arith) (omega arith)

  -- ---- a leaf

  at_leaf : (s : Stand) (leaves turn : ℕ) → leaves ≡ 1 → turn ≡ turns (tagged (Some (count - 1 + s.first)) (drop s.pos x)) → turn_at_leaf s turn ≡ ask_at left skip turns count x s leaves
  at_leaf s leaves turn one is = rw one (ap (turn_at_leaf s) is)

  -- the step from a leaf, by the bits from there on and a tag of 32 bits
  pub ask_leaf : (s : Stand) (turn k : ℕ) (y : Bits) → s.leaves ≡ 1 → k ≡ length x → y ≡ take (k - s.pos) (drop s.pos x) → turn ≡ turns (tagged (Some ((count - 1 + s.first) % 4294967296)) y) → turn_at_leaf s turn ≡ asks (goes s)
  ask_leaf s turn k y one whole fragment answer =
      let size = length-drop s.pos x in
      let y_is : y ≡ drop s.pos x = fragment ∙ take_all (k - s.pos) (drop s.pos x) (omega arith) in
      at_leaf s s.leaves turn one (answer ∙ ap turns (tag_low (count - 1 + s.first) y) ∙ ap (λ z. turns (tagged (Some (count - 1 + s.first)) z)) y_is)

  leaf_still : (s : Stand) (turn : ℕ) → asks (turn_at_leaf s turn) ≡ turn_at_leaf s turn
  leaf_still s zero = refl
  leaf_still s (suc zero) = refl
  leaf_still s (suc (suc zero)) = refl
  leaf_still s (suc (suc (suc turn))) = refl

  -- ---- the rest of a walk

  -- more steps than leaves from here lead to the block
  pub record RestOf (w : Walk) (leaves : ℕ) : Type 0 where
    pub turns_left : ℕ
    pub enough : leaves < turns_left
    pub same : end_of (iterate turns_left asks w) ≡ hollow_block left skip turns count x

  pub rest_starts : 0 < count → RestOf (start count) count
  rest_starts some = record {
    turns_left = suc count;
    enough = omega arith;
    same = starts left skip turns count x some;
  }

  rest_more : (t : ℕ) (w next : Walk) (leaves fewer : ℕ) → leaves < t → fewer < leaves → end_of (iterate t asks w) ≡ hollow_block left skip turns count x → next ≡ asks w → RestOf next fewer
  rest_more zero w next leaves fewer enough less same is = absurd (omega arith)
  rest_more (suc t) w next leaves fewer enough less same is = record {
    turns_left = t;
    enough = omega arith;
    same = ap (λ v. end_of (iterate t asks v)) is ∙ same;
  }

  -- one step on
  pub rest_steps : (w next : Walk) (leaves fewer : ℕ) → RestOf w leaves → fewer < leaves → next ≡ asks w → RestOf next fewer
  rest_steps w next leaves fewer h less is = rest_more h.turns_left w next leaves fewer h.enough less h.same is

  ends_in : (t : ℕ) (w end : Walk) (leaves : ℕ) → leaves < t → end ≡ asks w → asks end ≡ end → end_of (iterate t asks w) ≡ hollow_block left skip turns count x → end_of end ≡ hollow_block left skip turns count x
  ends_in zero w end leaves enough is still same = absurd (omega arith)
  ends_in (suc t) w end leaves enough is still same =
      ap end_of (sym (iterate_still t asks end still))
      ∙ ap (λ v. end_of (iterate t asks v)) is
      ∙ same

  -- a step that ends at a block, or is lost
  pub rest_ends : (w : Walk) (leaves j : ℕ) → RestOf w leaves → ends j ≡ asks w → Some j ≡ hollow_block left skip turns count x
  rest_ends w leaves j h is = ends_in h.turns_left w (ends j) leaves h.enough is refl h.same

  pub rest_lost : (w : Walk) (leaves : ℕ) → RestOf w leaves → lost ≡ asks w → None ≡ hollow_block left skip turns count x
  rest_lost w leaves h is = ends_in h.turns_left w lost leaves h.enough is refl h.same

  still_one : (s : Stand) (leaves : ℕ) → leaves ≡ 1 → asks (ask_at left skip turns count x s leaves) ≡ ask_at left skip turns count x s leaves
  still_one s leaves one = rw one (leaf_still s (turns (tagged (Some (count - 1 + s.first)) (drop s.pos x))))

  -- the step from a leaf is the last
  pub rest_leaf : (s : Stand) (leaves : ℕ) → RestOf (goes s) leaves → s.leaves ≡ 1 → end_of (asks (goes s)) ≡ hollow_block left skip turns count x
  rest_leaf s leaves h one = ends_in h.turns_left (goes s) (asks (goes s)) leaves h.enough refl (still_one s s.leaves one) h.same

-- without delimiters there is one block
pub no_delimiters : (left skip : List ℕ) (turns : Bits → ℕ) (count : ℕ) (x : Bits) → count ≡ 0 → Some 0 ≡ hollow_block left skip turns count x
unfolding hollow_block
no_delimiters left skip turns zero x none = refl
no_delimiters left skip turns (suc d) x none = absurd (omega arith)
