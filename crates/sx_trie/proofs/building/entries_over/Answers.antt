use Rattle.std.proofs.Common.{◌≡◌, ℕ, List, [], ◌∷◌, ◌++◌, length, take, sym, ap, subst, ◌∙◌, arith}
use Rattle.std.specs.Prelude.{map, slice_index_or}
use Rattle.std.proofs.lemmas.List.{length-map, length_push}
use Rattle.sx_spec_strings.specs.Bits.{key_bits}
use Rattle.sx_spec_kinds.specs.Trie as spec
use Rattle.sx_spec_kinds.proofs.TrieLaws.{length-extents_of}
use Rattle.sx_trie.specs.declared.building.Range.{Range}
use Rattle.sx_trie.specs.declared.nodes.Entry.{Entry}
use Rattle.sx_trie.specs.Tries.{delimiter_bits, node_of}
use Rattle.sx_trie.specs.Ranges.{with_range}
use Rattle.sx_trie.proofs.OpenRanges.{opened_first, top, top_inside, top_node, top_name, splits, opened_step, mapped_none, mapped_push, mapped_all, pending_none}
use Rattle.sx_trie.proofs.building.entries_over.Goals as goal

strings_of : (lines : List (List ℕ)) (numbers : List ℕ) → length (delimiter_bits lines numbers) ≡ length numbers
strings_of lines numbers = length-map numbers (λ i. key_bits (slice_index_or lines i []))

pub opening-init : goal.opening-init
opening-init c =
    let lines = c.args.keys.now.lines in
    let ds = delimiter_bits lines c.args.delimiters.now in
    let count = c.count_of-after.result in
    let many : count ≡ length ds = c.count_of-after.ensures.value ∙ sym (strings_of lines c.args.delimiters.now) in
    let first : Range = record { first = 0; after = count; name = 0 } in
    let now = c.open_range.new.ranges.items in
    let is : now ≡ with_range [] first = c.in_ok-open_range.ensures ∙ ap (λ rs. with_range rs first) c.new-ranges.ensures.items in
    let begun = opened_first ds c.count_of-after.ensures.keys count now many is in
    record {
      counted = let e = ap length c.new-entries.ensures.items in let p = begun.1 in omega arith;
      opened = λ keys. (opened_first ds keys count now many is).0;
      nodes = mapped_none (λ (e : Entry). node_of e.node) (spec.node_of ds) c.new-entries.result.items (spec.extents_of ds) c.new-entries.ensures.items;
      names = mapped_none (λ (e : Entry). e.name) (spec.name_len (spec.extents_of ds)) c.new-entries.result.items (spec.extents_of ds) c.new-entries.ensures.items;
    }

pub node_over-node-requires-clause-some : goal.node_over-node-requires-clause-some
node_over-node-requires-clause-some c =
    let ds = delimiter_bits c.args.keys.now.lines c.args.delimiters.now in
    let keys = c.count_of-after.ensures.keys in
    let o = top ds keys _ c.opening.ranges.items c.pop.new.self.items c.in-Some.range c.in-Some.ensures.items (c.opening.invariant.opened keys) c.opening.invariant.counted in
    let more = o.more in
    omega arith

pub node_over-node-requires-clause-inside : goal.node_over-node-requires-clause-inside
node_over-node-requires-clause-inside c =
    let ds = delimiter_bits c.args.keys.now.lines c.args.delimiters.now in
    let keys = c.count_of-after.ensures.keys in
    let o = top ds keys _ c.opening.ranges.items c.pop.new.self.items c.in-Some.range c.in-Some.ensures.items (c.opening.invariant.opened keys) c.opening.invariant.counted in
    let inside = o.inside in
    let many = strings_of c.args.keys.now.lines c.args.delimiters.now in
    omega arith

pub node_over-node-requires-clause-splits : goal.node_over-node-requires-clause-splits
node_over-node-requires-clause-splits c =
    let ds = delimiter_bits c.args.keys.now.lines c.args.delimiters.now in
    let keys = c.count_of-after.ensures.keys in
    splits ds keys _ c.in-Some.range
    (top ds keys _ c.opening.ranges.items c.pop.new.self.items c.in-Some.range c.in-Some.ensures.items (c.opening.invariant.opened keys) c.opening.invariant.counted)

pub opening-smaller : goal.opening-smaller
opening-smaller c =
    let ds = delimiter_bits c.args.keys.now.lines c.args.delimiters.now in
    let keys = c.count_of-after.ensures.keys in
    let inside = top_inside ds keys _ c.opening.ranges.items c.pop.new.self.items c.in-Some.range c.in-Some.ensures.items (c.opening.invariant.opened keys) c.opening.invariant.counted in
    let size = length-extents_of ds keys in
    let many = strings_of c.args.keys.now.lines c.args.delimiters.now in
    let entry : Entry = record { node = c.node_over-node.result; name = c.in-Some.range.name } in
    let more = ap length c.in_ok-push.ensures.items ∙ length_push c.opening.entries.items entry in
    omega arith

pub opening-preserved : goal.opening-preserved
opening-preserved c =
    let lines = c.args.keys.now.lines in
    let ds = delimiter_bits lines c.args.delimiters.now in
    let keys = c.count_of-after.ensures.keys in
    let n = length c.opening.entries.items in
    let before = c.opening.ranges.items in
    let rest = c.pop.new.self.items in
    let r = c.in-Some.range in
    let node = c.node_over-node.result in
    let f = c.node_over-node.ensures in
    let entry : Entry = record { node = node; name = r.name } in
    let pushed : c.push.new.self.items ≡ c.opening.entries.items ++ entry ∷ [] = c.in_ok-push.ensures.items in
    let inside = top_inside ds keys n before rest r c.in-Some.ensures.items (c.opening.invariant.opened keys) c.opening.invariant.counted in
    let step = opened_step ds keys n before rest r c.in-Some.ensures.items (c.opening.invariant.opened keys) c.opening.invariant.counted node
    f.extent f.first f.after f.low f.high f.zeros f.ones c.open_range-in-Some.new.ranges.items c.open_range-in-Some-2.new.ranges.items c.in_ok-open_range-2.ensures c.in_ok-open_range-3.ensures in
    record {
      counted = let more = ap length pushed ∙ length_push c.opening.entries.items entry in let all = step.1 in omega arith;
      opened = λ keys'. (opened_step ds keys' n before rest r c.in-Some.ensures.items (c.opening.invariant.opened keys') c.opening.invariant.counted node
          f.extent f.first f.after f.low f.high f.zeros f.ones c.open_range-in-Some.new.ranges.items c.open_range-in-Some-2.new.ranges.items c.in_ok-open_range-2.ensures c.in_ok-open_range-3.ensures).0;
      nodes = subst (λ (es : List Entry). map (λ (e : Entry). node_of e.node) es ≡ map (spec.node_of ds) (take (length es) (spec.extents_of ds))) (sym pushed)
          (mapped_push (λ (e : Entry). node_of e.node) (spec.node_of ds) c.opening.entries.items entry (spec.extents_of ds) [] c.opening.invariant.nodes inside
          (top_node ds keys n before rest r c.in-Some.ensures.items (c.opening.invariant.opened keys) c.opening.invariant.counted node f.extent f.first f.after f.low f.high f.zeros f.ones));
      names = subst (λ (es : List Entry). map (λ (e : Entry). e.name) es ≡ map (spec.name_len (spec.extents_of ds)) (take (length es) (spec.extents_of ds))) (sym pushed)
          (mapped_push (λ (e : Entry). e.name) (spec.name_len (spec.extents_of ds)) c.opening.entries.items entry (spec.extents_of ds) [] c.opening.invariant.names inside
          (top_name ds keys n before rest r c.in-Some.ensures.items (c.opening.invariant.opened keys) c.opening.invariant.counted node f.extent f.first f.after f.low f.high f.zeros f.ones));
    }

pub returns : goal.returns
returns c =
    let ds = delimiter_bits c.args.keys.now.lines c.args.delimiters.now in
    let keys = c.count_of-after.ensures.keys in
    let size = length-extents_of ds keys in
    let counted = c.opening.invariant.counted in
    let none = c.in_default.ensures.cases.0 in
    let empty = pending_none c.opening.ranges.items (omega (arith, c.opening.ranges.ok.0)) in
    record {
      nodes = mapped_all (λ (e : Entry). node_of e.node) (spec.node_of ds) c.opening.entries.items (spec.extents_of ds) c.opening.invariant.nodes (omega arith);
      names = mapped_all (λ (e : Entry). e.name) (spec.name_len (spec.extents_of ds)) c.opening.entries.items (spec.extents_of ds) c.opening.invariant.names (omega arith);
    }
