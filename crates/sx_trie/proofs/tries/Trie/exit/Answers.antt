use Rattle.std.proofs.Common.{◌≡◌, ℕ, ◌+◌, ◌-◌, ◌<◌, Bool, true, List, [], length, get_or, take, sym, ap, subst, ◌∙◌, arith}
use Rattle.std.specs.Prelude.{slice_index_or}
use Rattle.std.proofs.lemmas.List.{length-map}
use Rattle.std.proofs.lemmas.List.Sums.{count_by-le-length}
use Rattle.sx_spec_strings.specs.Bits.{Bits, begins_with, is_below, key_bits}
use Rattle.sx_spec_kinds.specs.Blocks.{block_of}
use Rattle.sx_spec_kinds.proofs.ExitLaws.{exit_block}
use Rattle.sx_spec_kinds.specs.Trie.{Exit, inner, leaf, extents_of, nodes_of, block_at_exit, exit_of as exit_in, node_of as node_in}
use Rattle.sx_spec_kinds.specs.Hollow.{Stand}
use Rattle.sx_bits.specs.Views.{bits_of}
use Rattle.sx_trie.specs.Tries.{Contents, IsTrieOf, delimiter_bits, node_of}
use Rattle.sx_trie.proofs.Stands.{extent_at, under_at, longer_at, node_inside, found}
use Rattle.sx_trie.proofs.ExitWalk.{Walks, walk_starts, walk_stops, shared_name, walk_left, walk_right, exit_at_inner, exit_at_leaf, right_by_order}
use Rattle.sx_trie.proofs.tries.Trie.exit.Goals as goal

-- the block at the exit of a string
block_below : (lines : List (List ℕ)) (t : Contents) → IsTrieOf lines t → 0 < length t.delimiters → (x : Bits) (e : Exit) → e ≡ exit_in (delimiter_bits lines t.delimiters) x
    → block_at_exit t.nodes e ≡ block_of (delimiter_bits lines t.delimiters) x
block_below lines t built some x e is =
    let ds = delimiter_bits lines t.delimiters in
    let many = length-map t.delimiters (λ i. key_bits (slice_index_or lines i [])) in
    ap (λ ns. block_at_exit ns e) built.nodes ∙ ap (block_at_exit (nodes_of ds)) is ∙ exit_block ds built.keys x (omega arith)

count_of : (lines : List (List ℕ)) (numbers : List ℕ) → length (delimiter_bits lines numbers) ≡ length numbers
count_of lines numbers = length-map numbers (λ i. key_bits (slice_index_or lines i []))

pub overflow_cast-after : goal.overflow_cast-after
overflow_cast-after c = let a = c.self.invariant.leaves in omega arith

pub loop-after-init : goal.loop-after-init
loop-after-init c =
    let same = ap (λ (t : Contents). length t.delimiters) c.self.view_is in
    let many = count_of c.args.keys.now.lines c.args.self.now.delimiters in
    record {
      ordered = let some = c.requires.some in omega arith;
      inside = omega arith;
      stands = λ keys. walk_starts (delimiter_bits c.args.keys.now.lines c.args.self.now.delimiters) keys (bits_of c.args.view.now) (c.len-after.result - 0) (omega arith) (let some = c.requires.some in omega arith);
    }

pub node-node-requires : goal.node-node-requires
node-node-requires c =
    let ds = delimiter_bits c.args.keys.now.lines c.args.self.now.delimiters in
    let keys = c.requires.built.keys in
    let name = c.loop-after.name in
    let h = c.loop-after.invariant.stands keys in
    let inside = node_inside ds keys (bits_of c.args.view.now) _ h c.loop-after-test.true in
    let many = ap length c.requires.built.nodes ∙ length-map (extents_of ds) (node_in ds) in
    omega arith

pub goes_on-requires-clause-ordered : goal.goes_on-requires-clause-ordered
goes_on-requires-clause-ordered c =
    let lines = c.args.keys.now.lines in
    let ds = delimiter_bits lines c.args.self.now.delimiters in
    let keys = c.requires.built.keys in
    let x = bits_of c.args.view.now in
    let h = c.loop-after.invariant.stands keys in
    let s : Stand = record { node = c.loop-after.at; leaves = c.loop-after.after - c.loop-after.first; first = c.loop-after.first; pos = c.loop-after.name } in
    let more : 1 < s.leaves = c.loop-after-test.true in
    let many = count_of lines c.args.self.now.delimiters in
    let inside = c.loop-after.invariant.inside in
    let ordered = c.loop-after.invariant.ordered in
    let node = found ds keys x s h more c.args.self.now.nodes c.requires.built.nodes (node_of c.node-node.result) c.node-node.ensures in
    let numbers = c.deref.ensures.value ∙ ap (λ (t : Contents). t.delimiters) c.self.view_is in
    let d_is : bits_of c.view_of-delimiter.result ≡ get_or ds c.loop-after.first [] =
    c.view_of-delimiter.ensures ∙ ap (λ (ns : List ℕ). get_or (delimiter_bits lines ns) c.loop-after.first []) numbers in
    let shared = shared_name ds keys x s h more (omega arith) in
    let e = node.extent_is in
    let within = shared.0 in
    omega arith

pub goes_on-requires-clause-inside : goal.goes_on-requires-clause-inside
goes_on-requires-clause-inside c =
    let lines = c.args.keys.now.lines in
    let ds = delimiter_bits lines c.args.self.now.delimiters in
    let keys = c.requires.built.keys in
    let x = bits_of c.args.view.now in
    let h = c.loop-after.invariant.stands keys in
    let s : Stand = record { node = c.loop-after.at; leaves = c.loop-after.after - c.loop-after.first; first = c.loop-after.first; pos = c.loop-after.name } in
    let more : 1 < s.leaves = c.loop-after-test.true in
    let many = count_of lines c.args.self.now.delimiters in
    let inside = c.loop-after.invariant.inside in
    let ordered = c.loop-after.invariant.ordered in
    let node = found ds keys x s h more c.args.self.now.nodes c.requires.built.nodes (node_of c.node-node.result) c.node-node.ensures in
    let numbers = c.deref.ensures.value ∙ ap (λ (t : Contents). t.delimiters) c.self.view_is in
    let d_is : bits_of c.view_of-delimiter.result ≡ get_or ds c.loop-after.first [] =
    c.view_of-delimiter.ensures ∙ ap (λ (ns : List ℕ). get_or (delimiter_bits lines ns) c.loop-after.first []) numbers in
    let shared = shared_name ds keys x s h more (omega arith) in
    let e = node.extent_is in
    let longer = longer_at ds keys x s h more s.first (omega arith) (omega arith) (omega arith) in
    let same = ap length d_is in
    omega arith

pub goes_on-requires-clause-shared : goal.goes_on-requires-clause-shared
goes_on-requires-clause-shared c =
    let lines = c.args.keys.now.lines in
    let ds = delimiter_bits lines c.args.self.now.delimiters in
    let keys = c.requires.built.keys in
    let x = bits_of c.args.view.now in
    let h = c.loop-after.invariant.stands keys in
    let s : Stand = record { node = c.loop-after.at; leaves = c.loop-after.after - c.loop-after.first; first = c.loop-after.first; pos = c.loop-after.name } in
    let more : 1 < s.leaves = c.loop-after-test.true in
    let many = count_of lines c.args.self.now.delimiters in
    let inside = c.loop-after.invariant.inside in
    let ordered = c.loop-after.invariant.ordered in
    let node = found ds keys x s h more c.args.self.now.nodes c.requires.built.nodes (node_of c.node-node.result) c.node-node.ensures in
    let numbers = c.deref.ensures.value ∙ ap (λ (t : Contents). t.delimiters) c.self.view_is in
    let d_is : bits_of c.view_of-delimiter.result ≡ get_or ds c.loop-after.first [] =
    c.view_of-delimiter.ensures ∙ ap (λ (ns : List ℕ). get_or (delimiter_bits lines ns) c.loop-after.first []) numbers in
    let shared = shared_name ds keys x s h more (omega arith) in
    ap (take c.loop-after.name) d_is ∙ shared.1

pub returns-then-not-goes_on-clause-value : goal.returns-then-not-goes_on-clause-value
returns-then-not-goes_on-clause-value c =
    let lines = c.args.keys.now.lines in
    let ds = delimiter_bits lines c.args.self.now.delimiters in
    let keys = c.requires.built.keys in
    let x = bits_of c.args.view.now in
    let name = c.loop-after.name in
    let h = c.loop-after.invariant.stands keys in
    let s : Stand = record { node = c.loop-after.at; leaves = c.loop-after.after - c.loop-after.first; first = c.loop-after.first; pos = name } in
    let more : 1 < s.leaves = c.loop-after-test.true in
    let many = count_of lines c.args.self.now.delimiters in
    let inside = c.loop-after.invariant.inside in
    let ordered = c.loop-after.invariant.ordered in
    let node = found ds keys x s h more c.args.self.now.nodes c.requires.built.nodes (node_of c.node-node.result) c.node-node.ensures in
    let numbers = c.deref.ensures.value ∙ ap (λ (t : Contents). t.delimiters) c.self.view_is in
    let d_is : bits_of c.view_of-delimiter.result ≡ get_or ds c.loop-after.first [] =
    c.view_of-delimiter.ensures ∙ ap (λ (ns : List ℕ). get_or (delimiter_bits lines ns) c.loop-after.first []) numbers in
    let d_e : begins_with (bits_of c.view_of-delimiter.result) (extent_at ds s) ≡ true =
    ap (λ (d : Bits). begins_with d (extent_at ds s)) d_is ∙ under_at ds keys x s h more s.first (omega arith) (omega arith) (omega arith) in
    let stops = walk_stops (bits_of c.view_of-delimiter.result) x (extent_at ds s) c.node-node.result.extent node.extent_is d_e c.if-not-goes_on.ensures.proper in
    let right = right_by_order (bits_of c.view_of-delimiter.result) x c.order.result c.is_lt.result c.order.ensures c.is_lt.ensures
    ∙ ap (λ (d : Bits). is_below d x) d_is in
    ap (λ (r : Bool). let e : Exit = record { place = inner s.node; right = r } in e) right
    ∙ exit_at_inner ds keys x s h more (omega arith) stops

pub returns-then-not-goes_on-clause-place : goal.returns-then-not-goes_on-clause-place
returns-then-not-goes_on-clause-place c =
    let ds = delimiter_bits c.args.keys.now.lines c.args.self.now.delimiters in
    let keys = c.requires.built.keys in
    let name = c.loop-after.name in
    let h = c.loop-after.invariant.stands keys in
    let inside = node_inside ds keys (bits_of c.args.view.now) _ h c.loop-after-test.true in
    let many = ap length c.requires.built.nodes ∙ length-map (extents_of ds) (node_in ds) in
    omega arith

pub overflow_sub-at : goal.overflow_sub-at
overflow_sub-at c =
    let lines = c.args.keys.now.lines in
    let ds = delimiter_bits lines c.args.self.now.delimiters in
    let keys = c.requires.built.keys in
    let x = bits_of c.args.view.now in
    let name = c.loop-after.name in
    let h = c.loop-after.invariant.stands keys in
    let s : Stand = record { node = c.loop-after.at; leaves = c.loop-after.after - c.loop-after.first; first = c.loop-after.first; pos = name } in
    let more : 1 < s.leaves = c.loop-after-test.true in
    let many = count_of lines c.args.self.now.delimiters in
    let inside = c.loop-after.invariant.inside in
    let ordered = c.loop-after.invariant.ordered in
    let node = found ds keys x s h more c.args.self.now.nodes c.requires.built.nodes (node_of c.node-node.result) c.node-node.ensures in
    let a = node.first_is in
    let b = node.middle_is in
    let d = node.after_is in
    let e = node.left_some in
    let f = node.left_less in
    omega arith

pub overflow_add-at : goal.overflow_add-at
overflow_add-at c =
    let lines = c.args.keys.now.lines in
    let ds = delimiter_bits lines c.args.self.now.delimiters in
    let keys = c.requires.built.keys in
    let x = bits_of c.args.view.now in
    let name = c.loop-after.name in
    let h = c.loop-after.invariant.stands keys in
    let s : Stand = record { node = c.loop-after.at; leaves = c.loop-after.after - c.loop-after.first; first = c.loop-after.first; pos = name } in
    let more : 1 < s.leaves = c.loop-after-test.true in
    let many = count_of lines c.args.self.now.delimiters in
    let inside = c.loop-after.invariant.inside in
    let ordered = c.loop-after.invariant.ordered in
    let node = found ds keys x s h more c.args.self.now.nodes c.requires.built.nodes (node_of c.node-node.result) c.node-node.ensures in
    let numbers = c.deref.ensures.value ∙ ap (λ (t : Contents). t.delimiters) c.self.view_is in
    let d_is : bits_of c.view_of-delimiter.result ≡ get_or ds c.loop-after.first [] =
    c.view_of-delimiter.ensures ∙ ap (λ (ns : List ℕ). get_or (delimiter_bits lines ns) c.loop-after.first []) numbers in
    let goes = c.if-not-goes_on.ensures.proper in
    let stands = walk_right ds keys x s h more c.node-node.result.extent c.node-node.result.first c.node-node.result.middle c.node-node.result.after node (omega arith) goes.0 (goes.1 ∙ ap (take c.node-node.result.extent) d_is) (sym c.bit.ensures ∙ c.if-bit.true) in
    let place = stands.node in
    let few = count_by-le-length (λ (f : Bits). is_below f (take (c.node-node.result.extent + 1) x)) (extents_of ds) in
    let all = ap length c.requires.built.nodes ∙ length-map (extents_of ds) (node_in ds) in
    let view = ap (λ (t : Contents). length t.nodes) c.self.view_is in
    let small = c.self.invariant.few in
    omega arith

pub overflow_add-at-else-bit : goal.overflow_add-at-else-bit
overflow_add-at-else-bit c =
    let lines = c.args.keys.now.lines in
    let ds = delimiter_bits lines c.args.self.now.delimiters in
    let keys = c.requires.built.keys in
    let x = bits_of c.args.view.now in
    let name = c.loop-after.name in
    let h = c.loop-after.invariant.stands keys in
    let s : Stand = record { node = c.loop-after.at; leaves = c.loop-after.after - c.loop-after.first; first = c.loop-after.first; pos = name } in
    let here = node_inside ds keys x s h c.loop-after-test.true in
    let all = ap length c.requires.built.nodes ∙ length-map (extents_of ds) (node_in ds) in
    let view = ap (λ (t : Contents). length t.nodes) c.self.view_is in
    let small = c.self.invariant.few in
    omega arith

pub loop-after-smaller-then-bit : goal.loop-after-smaller-then-bit
loop-after-smaller-then-bit c =
    let lines = c.args.keys.now.lines in
    let ds = delimiter_bits lines c.args.self.now.delimiters in
    let keys = c.requires.built.keys in
    let x = bits_of c.args.view.now in
    let name = c.loop-after.name in
    let h = c.loop-after.invariant.stands keys in
    let s : Stand = record { node = c.loop-after.at; leaves = c.loop-after.after - c.loop-after.first; first = c.loop-after.first; pos = name } in
    let more : 1 < s.leaves = c.loop-after-test.true in
    let many = count_of lines c.args.self.now.delimiters in
    let inside = c.loop-after.invariant.inside in
    let ordered = c.loop-after.invariant.ordered in
    let node = found ds keys x s h more c.args.self.now.nodes c.requires.built.nodes (node_of c.node-node.result) c.node-node.ensures in
    let a = node.first_is in
    let b = node.middle_is in
    let d = node.after_is in
    let e = node.left_some in
    let f = node.left_less in
    omega arith

pub loop-after-smaller : goal.loop-after-smaller
loop-after-smaller c =
    let lines = c.args.keys.now.lines in
    let ds = delimiter_bits lines c.args.self.now.delimiters in
    let keys = c.requires.built.keys in
    let x = bits_of c.args.view.now in
    let name = c.loop-after.name in
    let h = c.loop-after.invariant.stands keys in
    let s : Stand = record { node = c.loop-after.at; leaves = c.loop-after.after - c.loop-after.first; first = c.loop-after.first; pos = name } in
    let more : 1 < s.leaves = c.loop-after-test.true in
    let many = count_of lines c.args.self.now.delimiters in
    let inside = c.loop-after.invariant.inside in
    let ordered = c.loop-after.invariant.ordered in
    let node = found ds keys x s h more c.args.self.now.nodes c.requires.built.nodes (node_of c.node-node.result) c.node-node.ensures in
    let a = node.first_is in
    let b = node.middle_is in
    let d = node.after_is in
    let e = node.left_some in
    let f = node.left_less in
    omega arith

pub loop-after-preserved-then-bit : goal.loop-after-preserved-then-bit
loop-after-preserved-then-bit c =
    let lines = c.args.keys.now.lines in
    let ds = delimiter_bits lines c.args.self.now.delimiters in
    let keys = c.requires.built.keys in
    let x = bits_of c.args.view.now in
    let name = c.loop-after.name in
    let h = c.loop-after.invariant.stands keys in
    let s : Stand = record { node = c.loop-after.at; leaves = c.loop-after.after - c.loop-after.first; first = c.loop-after.first; pos = name } in
    let more : 1 < s.leaves = c.loop-after-test.true in
    let many = count_of lines c.args.self.now.delimiters in
    let inside = c.loop-after.invariant.inside in
    let ordered = c.loop-after.invariant.ordered in
    let node = found ds keys x s h more c.args.self.now.nodes c.requires.built.nodes (node_of c.node-node.result) c.node-node.ensures in
    let a = node.first_is in
    let b = node.middle_is in
    let d = node.after_is in
    let e = node.left_some in
    let f = node.left_less in
    record {
      ordered = omega arith;
      inside = omega arith;
      stands = λ keys'.
          let h' = c.loop-after.invariant.stands keys' in
          let s' : Stand = record { node = c.loop-after.at; leaves = c.loop-after.after - c.loop-after.first; first = c.loop-after.first; pos = c.loop-after.name } in
          let node' = found ds keys' x s' h' more c.args.self.now.nodes c.requires.built.nodes (node_of c.node-node.result) c.node-node.ensures in
          let numbers = c.deref.ensures.value ∙ ap (λ (t : Contents). t.delimiters) c.self.view_is in
          let d_is : bits_of c.view_of-delimiter.result ≡ get_or ds c.loop-after.first [] =
          c.view_of-delimiter.ensures ∙ ap (λ (ns : List ℕ). get_or (delimiter_bits lines ns) c.loop-after.first []) numbers in
          let goes = c.if-not-goes_on.ensures.proper in
          let e1 : c.node-node.result.after - c.node-node.result.middle ≡ c.loop-after.after - c.node-node.result.middle = omega arith in
          subst (λ n. Walks ds keys' x (c.loop-after.at + (c.node-node.result.middle - c.node-node.result.first)) n c.node-node.result.middle (c.node-node.result.extent + 1)) e1
          (walk_right ds keys' x s' h' more c.node-node.result.extent c.node-node.result.first c.node-node.result.middle c.node-node.result.after node' (omega arith) goes.0 (goes.1 ∙ ap (take c.node-node.result.extent) d_is) (sym c.bit.ensures ∙ c.if-bit.true));
    }

pub loop-after-preserved : goal.loop-after-preserved
loop-after-preserved c =
    let lines = c.args.keys.now.lines in
    let ds = delimiter_bits lines c.args.self.now.delimiters in
    let keys = c.requires.built.keys in
    let x = bits_of c.args.view.now in
    let name = c.loop-after.name in
    let h = c.loop-after.invariant.stands keys in
    let s : Stand = record { node = c.loop-after.at; leaves = c.loop-after.after - c.loop-after.first; first = c.loop-after.first; pos = name } in
    let more : 1 < s.leaves = c.loop-after-test.true in
    let many = count_of lines c.args.self.now.delimiters in
    let inside = c.loop-after.invariant.inside in
    let ordered = c.loop-after.invariant.ordered in
    let node = found ds keys x s h more c.args.self.now.nodes c.requires.built.nodes (node_of c.node-node.result) c.node-node.ensures in
    let a = node.first_is in
    let b = node.middle_is in
    let d = node.after_is in
    let e = node.left_some in
    let f = node.left_less in
    record {
      ordered = omega arith;
      inside = omega arith;
      stands = λ keys'.
          let h' = c.loop-after.invariant.stands keys' in
          let s' : Stand = record { node = c.loop-after.at; leaves = c.loop-after.after - c.loop-after.first; first = c.loop-after.first; pos = c.loop-after.name } in
          let node' = found ds keys' x s' h' more c.args.self.now.nodes c.requires.built.nodes (node_of c.node-node.result) c.node-node.ensures in
          let numbers = c.deref.ensures.value ∙ ap (λ (t : Contents). t.delimiters) c.self.view_is in
          let d_is : bits_of c.view_of-delimiter.result ≡ get_or ds c.loop-after.first [] =
          c.view_of-delimiter.ensures ∙ ap (λ (ns : List ℕ). get_or (delimiter_bits lines ns) c.loop-after.first []) numbers in
          let goes = c.if-not-goes_on.ensures.proper in
          let e1 : c.node-node.result.middle - c.node-node.result.first ≡ c.node-node.result.middle - c.loop-after.first = omega arith in
          subst (λ n. Walks ds keys' x (c.loop-after.at + 1) n c.loop-after.first (c.node-node.result.extent + 1)) e1
          (walk_left ds keys' x s' h' more c.node-node.result.extent c.node-node.result.first c.node-node.result.middle c.node-node.result.after node' (omega arith) goes.0 (goes.1 ∙ ap (take c.node-node.result.extent) d_is) (sym c.bit.ensures ∙ c.if-bit.false));
    }

pub returns-clause-value : goal.returns-clause-value
returns-clause-value c =
    let lines = c.args.keys.now.lines in
    let ds = delimiter_bits lines c.args.self.now.delimiters in
    let keys = c.requires.built.keys in
    let x = bits_of c.args.view.now in
    let name = c.loop-after.name in
    let h = c.loop-after.invariant.stands keys in
    let s : Stand = record { node = c.loop-after.at; leaves = c.loop-after.after - c.loop-after.first; first = c.loop-after.first; pos = name } in
    let many = count_of lines c.args.self.now.delimiters in
    let inside = c.loop-after.invariant.inside in
    let ordered = c.loop-after.invariant.ordered in
    let last = c.loop-after-test.false in
    let numbers = c.deref-2.ensures.value ∙ ap (λ (t : Contents). t.delimiters) c.self.view_is in
    let d_is : bits_of c.view_of-leaf.result ≡ get_or ds c.loop-after.first [] =
    c.view_of-leaf.ensures ∙ ap (λ (ns : List ℕ). get_or (delimiter_bits lines ns) c.loop-after.first []) numbers in
    let right = right_by_order (bits_of c.view_of-leaf.result) x c.order-2.result c.is_lt-2.result c.order-2.ensures c.is_lt-2.ensures
    ∙ ap (λ (d : Bits). is_below d x) d_is in
    ap (λ (r : Bool). let e : Exit = record { place = leaf s.first; right = r } in e) right
    ∙ exit_at_leaf ds keys x s h (omega arith) (omega arith)

pub returns-then-not-goes_on-clause-below : goal.returns-then-not-goes_on-clause-below
returns-then-not-goes_on-clause-below c =
    block_below c.args.keys.now.lines c.args.self.now c.requires.built c.requires.some (bits_of c.args.view.now) _ (returns-then-not-goes_on-clause-value c)

pub returns-clause-below : goal.returns-clause-below
returns-clause-below c =
    block_below c.args.keys.now.lines c.args.self.now c.requires.built c.requires.some (bits_of c.args.view.now) _ (returns-clause-value c)
