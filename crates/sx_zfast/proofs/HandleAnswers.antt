-- What a map that knows each handle answers a handle.
use Rattle.std.proofs.Common.{◌≡◌, ℕ, suc, ◌≤◌, ◌==◌, true, List, [], length, take, get_or, Option, Some, None, refl, sym, ◌∙◌, ap, arith}
use Rattle.std.proofs.lemmas.Bool.{eq-eqb, lt-ltb}
use Rattle.std.proofs.lemmas.List.FromFn.{get_or-map-range_with_len}
use Rattle.std.proofs.lemmas.List.Quantifiers.{position-Some}
use Rattle.std.specs.Bool.{nat_lt}
use Rattle.std.specs.List.{slice_index}
use Rattle.std.specs.Option.{option_map}
use Rattle.std.specs.Prelude.{position}
use Rattle.sx_spec_strings.specs.Bits.{Bits, bits_eq}
use Rattle.sx_spec_kinds.specs.Search.{answers_of, handle_node}
use Rattle.sx_spec_kinds.specs.Zfast.{HandleMap, KnowsHandles, probed_node}
use Rattle.sx_spec_kinds.proofs.NameLaws.{bits_same}

-- what is answered at a length
pub answer_at : (ask : Bits → Option ℕ) (x : Bits) (f : ℕ) → f ≤ length x → get_or (answers_of ask x) f None ≡ ask (take f x)
answer_at ask x f h = get_or-map-range_with_len (λ g. ask (take g x)) 0 (suc (length x)) f f None (omega arith) (omega arith)

probed_place : (m : HandleMap) (handles : List Bits) (y : Bits) (i : ℕ) → KnowsHandles m handles → position (bits_eq y) handles ≡ Some i → probed_node m y ≡ Some (suc i)
unfolding probed_node
probed_place m handles y i knows h =
    let found = position-Some (bits_eq y) handles i [] h in
    let same = bits_same y (get_or handles i []) found.1 in
    let count = knows.count in
    let small = found.0 in
    let place : m.handles y ≡ i = ap m.handles same ∙ knows.place i found.0 in
    let inside : nat_lt i (length m.marks) ≡ true = lt-ltb i (length m.marks) (omega arith) in
    let mark : slice_index m.marks i ≡ m.mark_of y = knows.mark i found.0 ∙ ap m.mark_of (sym same) in
    let agrees : (slice_index m.marks i == m.mark_of y) ≡ true = eq-eqb (slice_index m.marks i) (m.mark_of y) mark in
    rw (place, inside, agrees) refl

map_some : (f : ℕ → ℕ) (o : Option ℕ) (v : ℕ) → option_map f o ≡ Some v → (i : ℕ) × (o ≡ Some i) × (f i ≡ v)
map_some f None v h = cc
map_some f (Some i) v h = let e : f i ≡ v = cc in (i, refl, e)

-- the node of a handle
pub node_of_handle : (m : HandleMap) (handles : List Bits) (y : Bits) (v : ℕ) → KnowsHandles m handles → handle_node handles y ≡ Some v → probed_node m y ≡ Some v
node_of_handle m handles y v knows h =
    let found = map_some suc (position (bits_eq y) handles) v h in
    probed_place m handles y found.0 knows found.1 ∙ ap Some found.2
