use Rattle.std.proofs.Common.{◌≡◌, ◌∙◌, ℕ, List, IfOk, length, map, ap, subst, sym, arith}
use Rattle.sx_spec_strings.specs.Bits.{key_bits}
use Rattle.sx_spec_kinds.specs.Blocks.{block_size, delimiters_of}
use Rattle.sx_spec_kinds.specs.Hollow.{left_counts, skips}
use Rattle.sx_spec.specs.Built.{sums_list}
use Rattle.sx_trie.specs.Tries.{AreRising, delimiter_bits}
use Rattle.sx_trie.proofs.KeyNumbers.{no_more}
use Rattle.sx_parts.specs.Sectioning.{section_built}
use Rattle.sx_parts.proofs.BuiltDumps.{few_lines}
use Rattle.sx_assemble.proofs.hollow_dist.delimiter_sums.Goals as goal

pub hollow_lists-requires : goal.hollow_lists-requires
hollow_lists-requires c = record { members = subst (AreRising c.args.keys.now.lines) (sym c.deref.ensures.value) c.in_ok-numbers.ensures.rising }

pub trie_sums-requires-clause-left : goal.trie_sums-requires-clause-left
trie_sums-requires-clause-left c =
    let list = c.args.keys.now in
    let keys = c.delimiter_numbers.ensures.keys in
    let few = few_lines list.limits list.lines keys.limits keys.faultless in
    let most = no_more list.lines c.in_ok-numbers.numbers.items c.in_ok-numbers.ensures.rising in
    let same = ap (λ (l : List ℕ). length l) c.deref.ensures.value in
    let count = c.in_ok-lists.ensures.lefts in
    omega arith

pub trie_sums-requires-clause-skip : goal.trie_sums-requires-clause-skip
trie_sums-requires-clause-skip c =
    let list = c.args.keys.now in
    let keys = c.delimiter_numbers.ensures.keys in
    let few = few_lines list.limits list.lines keys.limits keys.faultless in
    let most = no_more list.lines c.in_ok-numbers.numbers.items c.in_ok-numbers.ensures.rising in
    let same = ap (λ (l : List ℕ). length l) c.deref.ensures.value in
    let count = c.in_ok-lists.ensures.skips in
    omega arith

pub returns-clause-left : goal.returns-clause-left
returns-clause-left c =
    let lines = c.args.keys.now.lines in
    let same : c.in_ok-lists.lists.left.items ≡ left_counts (delimiters_of (block_size c.args.log_bucket) (map key_bits lines)) =
    c.in_ok-lists.ensures.left ∙ ap left_counts (ap (delimiter_bits lines) c.deref.ensures.value ∙ c.in_ok-numbers.ensures.bits) in
    subst (λ (ns : List ℕ). IfOk c.trie_sums.result (λ s. section_built s.left ≡ sums_list ns)) same c.trie_sums.ensures.left

pub returns-clause-skip : goal.returns-clause-skip
returns-clause-skip c =
    let lines = c.args.keys.now.lines in
    let same : c.in_ok-lists.lists.skip.items ≡ skips (delimiters_of (block_size c.args.log_bucket) (map key_bits lines)) =
    c.in_ok-lists.ensures.skip ∙ ap skips (ap (delimiter_bits lines) c.deref.ensures.value ∙ c.in_ok-numbers.ensures.bits) in
    subst (λ (ns : List ℕ). IfOk c.trie_sums.result (λ s. section_built s.skip ≡ sums_list ns)) same c.trie_sums.ensures.skip
