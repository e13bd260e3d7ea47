-- What is left of a search, turn by turn.
use Rattle.std.proofs.Common.{◌≡◌, ℕ, zero, suc, ◌+◌, ◌-◌, ◌*◌, ◌<◌, ◌≤◌, List, [], ◌∷◌, ◌++◌, length, take, Option, Some, None, refl, sym, ap, ◌∙◌, arith, length-append}
use Rattle.std.specs.List.{slice_index}
use Rattle.std.proofs.lemmas.Bool.{lt-ltb}
use Rattle.std.proofs.lemmas.List.FromFn.{get_or-map-range_with_len}
use Rattle.sx_spec_strings.specs.Bits.{Bits}
use Rattle.sx_spec_strings.specs.Numbers.{binary_digits, iterate}
use Rattle.sx_spec_strings.proofs.NumberLaws.{iterate_still}
use Rattle.sx_spec_kinds.specs.Fattest.{fattest}
use Rattle.sx_spec_kinds.specs.Search.{Answers, Search, answers_of, node_for, reached, search_of, told, turn}
use Rattle.sx_spec_kinds.specs.Zfast.{HandleMap, probed_node, probed_search_of}
use Rattle.sx_spec_kinds.proofs.SearchLaws.{asked_digits, turn_rests}

-- what is answered at each length
abbrev told_by : HandleMap → Bits → Answers
told_by m x = answers_of (probed_node m) x

-- The search comes to its end from a node and a limit in so many turns. For each length that was asked at most twelve words were read.
pub record IsLeft (m : HandleMap) (lens : List ℕ) (x : Bits) (start node limit steps : ℕ) : Type 0 where
  pub turns : ℕ
  pub asked : List ℕ
  pub same : iterate turns (turn (answers_of (probed_node m) x) lens) (record { node = node; limit = limit; asked = asked }) ≡ probed_search_of m lens x
  pub enough : limit ≤ slice_index lens node + turns
  pub cost : steps ≤ start + 12 * length asked

module _ (m : HandleMap) (lens : List ℕ) (x : Bits) (start : ℕ) where
  abbrev next_turn : Search → Search
  next_turn = turn (told_by m x) lens

  whole_is : search_of (told_by m x) lens x ≡ probed_search_of m lens x
  unfolding probed_search_of
  whole_is = refl

  pub left_starts : (limit steps : ℕ) → limit ≡ length x → steps ≤ start → IsLeft m lens x start 0 limit steps
  unfolding search_of probed_search_of
  left_starts limit steps whole cost = record {
    turns = length x;
    asked = [];
    same = ap (λ (l : ℕ). iterate (length x) next_turn (record { node = 0; limit = l; asked = [] })) whole;
    enough = omega arith;
    cost = omega arith;
  }

  -- what is answered at a length is what is answered the prefix
  told_prefix : (f : ℕ) → f ≤ length x → node_for (told_by m x) lens f ≡ reached lens f (probed_node m (take f x))
  told_prefix f within =
      ap (reached lens f) (get_or-map-range_with_len (λ g. probed_node m (take g x)) 0 (suc (length x)) f f None (omega arith) (omega arith))

  -- a turn asks the fattest length
  turn_tells : (s : Search) → slice_index lens s.node < s.limit → next_turn s ≡ told s (fattest (slice_index lens s.node) s.limit) (node_for (told_by m x) lens (fattest (slice_index lens s.node) s.limit))
  unfolding turn
  turn_tells s more = rw (lt-ltb (slice_index lens s.node) s.limit more) refl

  turn_is : (s : Search) (f : ℕ) (o : Option ℕ) → slice_index lens s.node < s.limit → f ≡ fattest (slice_index lens s.node) s.limit → node_for (told_by m x) lens f ≡ o → next_turn s ≡ told s f o
  turn_is s f o more is answer =
      turn_tells s more ∙ ap (λ (g : ℕ). told s g (node_for (told_by m x) lens g)) (sym is) ∙ ap (told s f) answer

  one_less : (turns : ℕ) (s t : Search) → slice_index lens s.node < s.limit → s.limit ≤ slice_index lens s.node + turns → iterate turns next_turn s ≡ probed_search_of m lens x → next_turn s ≡ t
      → (left : ℕ) × (turns ≡ suc left) × (iterate left next_turn t ≡ probed_search_of m lens x)
  one_less zero s t more enough same is = absurd (omega arith)
  one_less (suc left) s t more enough same is = (left, refl, ap (iterate left next_turn) (sym is) ∙ same)

  module _ (node limit steps extent f after : ℕ) (h : IsLeft m lens x start node limit steps) (at : extent ≡ slice_index lens node) (more : extent < limit) (is : f ≡ fattest extent limit) (above : extent < f) (within : f ≤ limit) (short : f ≤ length x) (read : after ≤ steps + 12) where
    abbrev here : Search
    here = record { node = node; limit = limit; asked = h.asked }

    fattest_is : f ≡ fattest (slice_index lens node) limit
    fattest_is = is ∙ ap (λ (a : ℕ). fattest a limit) at

    -- on at the node that is answered
    pub left_onward : (next : ℕ) → Some next ≡ reached lens f (probed_node m (take f x)) → f ≤ slice_index lens next → IsLeft m lens x start next limit after
    left_onward next answer long =
        let enough = h.enough in
        let cost = h.cost in
        let longer = length-append h.asked (f ∷ []) in
        let rest = one_less h.turns here (record { node = next; limit = limit; asked = h.asked ++ f ∷ [] }) (omega arith) enough h.same (turn_is here f (Some next) (omega arith) fattest_is (told_prefix f short ∙ sym answer)) in
        let count = rest.1 in
        record {
          turns = rest.0;
          asked = h.asked ++ f ∷ [];
          same = rest.2;
          enough = omega arith;
          cost = omega arith;
        }

    -- on with shorter lengths
    pub left_shorter : None ≡ reached lens f (probed_node m (take f x)) → IsLeft m lens x start node (f - 1) after
    left_shorter answer =
        let enough = h.enough in
        let cost = h.cost in
        let longer = length-append h.asked (f ∷ []) in
        let rest = one_less h.turns here (record { node = node; limit = f - 1; asked = h.asked ++ f ∷ [] }) (omega arith) enough h.same (turn_is here f None (omega arith) fattest_is (told_prefix f short ∙ sym answer)) in
        let count = rest.1 in
        record {
          turns = rest.0;
          asked = h.asked ++ f ∷ [];
          same = rest.2;
          enough = omega arith;
          cost = omega arith;
        }

  -- no length is left
  left_rests : (node limit steps : ℕ) (h : IsLeft m lens x start node limit steps) → limit ≤ slice_index lens node → record { node = node; limit = limit; asked = h.asked } ≡ probed_search_of m lens x
  left_rests node limit steps h ends =
      let here : Search = record { node = node; limit = limit; asked = h.asked } in
      sym (iterate_still h.turns next_turn here (turn_rests (told_by m x) lens here ends)) ∙ h.same

  pub left_ends : (node limit steps : ℕ) → IsLeft m lens x start node limit steps → limit ≤ slice_index lens node → node ≡ (probed_search_of m lens x).node
  left_ends node limit steps h ends = ap (λ (s : Search). s.node) (left_rests node limit steps h ends)

  pub left_costs : (node limit steps : ℕ) → IsLeft m lens x start node limit steps → limit ≤ slice_index lens node → steps ≤ start + 12 * binary_digits (length x)
  left_costs node limit steps h ends =
      let cost = h.cost in
      let all : length h.asked ≡ length (search_of (told_by m x) lens x).asked = ap (λ (s : Search). length s.asked) (left_rests node limit steps h ends ∙ sym whole_is) in
      let few = asked_digits (told_by m x) lens x in
      omega arith
