use Rattle.std.proofs.Common.{◌≡◌, ◌∙◌, IfOk, List, length, ap, subst, sym}
use Rattle.std.specs.List.{range_with_len}
use Rattle.sx_spec_strings.specs.Bits.{Bits}
use Rattle.sx_spec_kinds.specs.Hollow.{left_counts, skips}
use Rattle.sx_trie.specs.Tries.{AreRising, delimiter_bits}
use Rattle.sx_assemble.proofs.HollowDumps.{all_bits, all_rise}
use Rattle.sx_assemble.proofs.hollow.key_lists.Goals as goal

pub hollow_lists-requires : goal.hollow_lists-requires
hollow_lists-requires c =
    let lines = c.args.keys.now.lines in
    let same : c.deref.result.now ≡ range_with_len 0 (length lines) = c.deref.ensures.value ∙ c.in_ok-members.ensures ∙ ap (range_with_len 0) c.len.ensures.value in
    record { members = subst (AreRising lines) (sym same) (all_rise lines) }

pub returns-clause-left : goal.returns-clause-left
returns-clause-left c =
    let lines = c.args.keys.now.lines in
    let same : c.deref.result.now ≡ range_with_len 0 (length lines) = c.deref.ensures.value ∙ c.in_ok-members.ensures ∙ ap (range_with_len 0) c.len.ensures.value in
    subst (λ (ks : List Bits). IfOk c.hollow_lists.result (λ h. h.left.items ≡ left_counts ks)) (ap (delimiter_bits lines) same ∙ all_bits lines) c.hollow_lists.ensures.left

pub returns-clause-skip : goal.returns-clause-skip
returns-clause-skip c =
    let lines = c.args.keys.now.lines in
    let same : c.deref.result.now ≡ range_with_len 0 (length lines) = c.deref.ensures.value ∙ c.in_ok-members.ensures ∙ ap (range_with_len 0) c.len.ensures.value in
    subst (λ (ks : List Bits). IfOk c.hollow_lists.result (λ h. h.skip.items ≡ skips ks)) (ap (delimiter_bits lines) same ∙ all_bits lines) c.hollow_lists.ensures.skip
