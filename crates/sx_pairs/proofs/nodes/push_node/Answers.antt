use Rattle.std.proofs.Common.{◌≡◌, ℕ, ◌<◌, ◌≤◌, true, [], ◌∷◌, ◌++◌, length, map, min, take, get_or, sym, ap, subst, ◌∙◌, arith, inl, inr, append_assoc}
use Rattle.std.proofs.lemmas.Bool.{cases_lt}
use Rattle.std.proofs.lemmas.List.{length-map, map-append}
use Rattle.std.proofs.lemmas.Slice.Zip.{all_zipped_more}
use Rattle.sx_spec_strings.specs.Bits.{begins_with, key_bits}
use Rattle.sx_bits.proofs.KeyListBits.{key_list_bits}
use Rattle.sx_pairs.specs.Pairs.{ArePairs, IsPairOf, key_at, node_fragment, node_pair, node_pairs}
use Rattle.sx_pairs.proofs.NodeFragments.{told_more, told_all}
use Rattle.sx_pairs.proofs.nodes.push_node.Goals as goal

pub loop-key-preserved : goal.loop-key-preserved
loop-key-preserved c =
    let lines = c.args.keys.now.lines in
    let ks = map key_bits lines in
    let n = c.args.node.now in
    let d = key_at lines n.key in
    let keys = key_list_bits c.args.keys.now c.len-count.ensures.keys in
    let size = length-map lines key_bits in
    let start = c.start_of_run-start.result in
    let end = c.end_of_run-end.result in
    let more = c.loop-key-test.true in
    let within : end ≤ length ks = omega arith in
    let visits : (i : ℕ) → start ≤ i → i < end → begins_with (get_or ks i []) (take n.name d) ≡ true =
    λ i low high. elim (cases_lt i n.key) [
      | inl before ↦ c.start_of_run-start.ensures.run i low (omega arith)
      | inr from ↦ c.end_of_run-end.ensures.run i from high
    ] in
    let F = c.loop-key.invariant.fragments in
    let f = node_fragment n (key_at lines c.loop-key.key) in
    let to_is : c.min-to.result ≡ min n.extent (length (key_at lines c.loop-key.key)) =
    c.min-to.ensures ∙ ap (min n.extent) (c.len-len.ensures.value ∙ ap length c.key_view.ensures) in
    record {
      from = omega arith;
      fragments = F ++ f ∷ [];
      told = told_more ks keys d n.name n.extent c.requires.ordered c.requires.named start end within visits
          c.loop-key.key c.end_of_run-key.result c.min-to.result F c.loop-key.invariant.told c.loop-key.invariant.from more
          to_is c.end_of_run-key.ensures.above c.end_of_run-key.ensures.run (λ i low high. c.end_of_run-key.ensures.beyond i low (omega arith));
      pairs = λ before are.
          let so_far = c.loop-key.invariant.pairs before are in
          let one = all_zipped_more (IsPairOf lines) c.loop-key.pairs.items (before ++ map (node_pair lines n) F) c.pair_at.result (node_pair lines n f) so_far c.pair_at.ensures in
          subst (λ xs. ArePairs lines xs (before ++ map (node_pair lines n) (F ++ f ∷ []))) (sym c.in_ok-push.ensures.items)
          (subst (λ qs. ArePairs lines (c.loop-key.pairs.items ++ c.pair_at.result ∷ []) qs)
          (append_assoc before (map (node_pair lines n) F) (node_pair lines n f ∷ []) ∙ ap (λ qs. before ++ qs) (sym (map-append (node_pair lines n) F (f ∷ []))))
          one);
    }

pub returns : goal.returns
unfolding node_pairs
returns c =
    let lines = c.args.keys.now.lines in
    let ks = map key_bits lines in
    let n = c.args.node.now in
    let d = key_at lines n.key in
    let keys = key_list_bits c.args.keys.now c.len-count.ensures.keys in
    let size = length-map lines key_bits in
    let start = c.start_of_run-start.result in
    let end = c.end_of_run-end.result in
    let within : end ≤ length ks = omega arith in
    let visits : (i : ℕ) → start ≤ i → i < end → begins_with (get_or ks i []) (take n.name d) ≡ true =
    λ i low high. elim (cases_lt i n.key) [
      | inl before ↦ c.start_of_run-start.ensures.run i low (omega arith)
      | inr from ↦ c.end_of_run-end.ensures.run i from high
    ] in
    let over = c.loop-key-test.false in
    let all = told_all ks keys d n.name n.extent c.requires.ordered c.requires.named start end within visits
    c.loop-key.key c.loop-key.invariant.fragments c.loop-key.invariant.told (omega arith) (λ i low high. c.end_of_run-end.ensures.beyond i low (omega arith)) in
    λ before are.
    subst (λ fs. ArePairs lines c.loop-key.pairs.items (before ++ map (node_pair lines n) fs)) all (c.loop-key.invariant.pairs before are)
