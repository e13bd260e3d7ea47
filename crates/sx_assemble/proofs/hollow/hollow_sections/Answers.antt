use Rattle.std.proofs.Common.{◌≡◌, ◌∙◌, ℕ, List, length, map, ap, subst, sym, arith}
use Rattle.sx_spec_strings.specs.Bits.{key_bits}
use Rattle.sx_spec_kinds.specs.Hollow.{left_counts, skips}
use Rattle.sx_spec.specs.Built.{sums_list}
use Rattle.sx_assemble.specs.Hollowing.{AreHollow}
use Rattle.sx_assemble.proofs.HollowDumps.{few_left, few_skips, hollow_laid}
use Rattle.sx_assemble.proofs.hollow.hollow_sections.Goals as goal

pub trie_sums-requires-clause-left : goal.trie_sums-requires-clause-left
trie_sums-requires-clause-left c =
    let few = few_left c.args.keys.now c.key_lists.ensures.keys in
    let count : length c.in_ok-lists.lists.left.items ≡ length (left_counts (map key_bits c.args.keys.now.lines)) = ap (λ (l : List ℕ). length l) c.in_ok-lists.ensures.left in
    omega arith

pub trie_sums-requires-clause-skip : goal.trie_sums-requires-clause-skip
trie_sums-requires-clause-skip c =
    let few = few_skips c.args.keys.now c.key_lists.ensures.keys in
    let count : length c.in_ok-lists.lists.skip.items ≡ length (skips (map key_bits c.args.keys.now.lines)) = ap (λ (l : List ℕ). length l) c.in_ok-lists.ensures.skip in
    omega arith

pub returns : goal.returns
returns c =
    let lines = c.args.keys.now.lines in
    let sums = c.in_ok-left.ensures in
    subst (AreHollow lines) (sym c.in_ok-vec.ensures.items)
    (hollow_laid c.args.keys.now c.key_lists.ensures.keys c.in_ok-left.field-0.left c.in_ok-left.field-0.skip
    (sums.left ∙ ap sums_list c.in_ok-lists.ensures.left) sums.whole_left
    (sums.skip ∙ ap sums_list c.in_ok-lists.ensures.skip) sums.whole_skip)
