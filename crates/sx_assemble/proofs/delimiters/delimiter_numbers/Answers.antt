use Rattle.std.proofs.Common.{◌≡◌, ◌∙◌, ◌++◌, ◌∷◌, [], ◌+◌, ◌-◌, ◌*◌, ℕ, length, map, ap, subst, sym, arith}
use Rattle.std.specs.Int.{div_ceil}
use Rattle.std.proofs.lemmas.List.FromFn.{map-range_with_len_more}
use Rattle.sx_spec_strings.specs.Bits.{key_bits}
use Rattle.sx_spec_kinds.specs.Blocks.{block_count, delimiters_of}
use Rattle.sx_trie.specs.Tries.{AreRising, delimiter_bits}
use Rattle.sx_assemble.proofs.HollowDistDumps.{ceil_is_count, last_bits, last_numbers, last_rise}
use Rattle.sx_assemble.proofs.delimiters.delimiter_numbers.Goals as goal

pub loop-block-preserved : goal.loop-block-preserved
loop-block-preserved c =
    let b = c.full_size-size.result in
    let some = c.full_size-size.ensures.some in
    let block = c.loop-block.block in
    let last : block * b + (b - 1) ≡ block * b + b - 1 = omega arith in
    c.in_ok-push.ensures.items
    ∙ (λ i. c.loop-block.invariant i ++ last i ∷ [])
    ∙ sym (map-range_with_len_more (λ (j : ℕ). j * b + b - 1) 0 block block (omega arith))

pub returns-clause-rising : goal.returns-clause-rising
returns-clause-rising c =
    let b = c.full_size-size.result in
    let some = c.full_size-size.ensures.some in
    let lines = c.args.keys.now.lines in
    let number : c.div_ceil.result ≡ block_count b (length lines) = c.div_ceil.ensures ∙ ap (λ n. div_ceil n b) c.len-count.ensures.value ∙ ceil_is_count b (length lines) some in
    let all : c.loop-block.block ≡ block_count b (length lines) - 1 = omega arith in
    subst (AreRising lines) (sym (c.loop-block.invariant ∙ ap (last_numbers b) all)) (last_rise b lines some)

pub returns-clause-bits : goal.returns-clause-bits
returns-clause-bits c =
    let b = c.full_size-size.result in
    let some = c.full_size-size.ensures.some in
    let lines = c.args.keys.now.lines in
    let number : c.div_ceil.result ≡ block_count b (length lines) = c.div_ceil.ensures ∙ ap (λ n. div_ceil n b) c.len-count.ensures.value ∙ ceil_is_count b (length lines) some in
    let all : c.loop-block.block ≡ block_count b (length lines) - 1 = omega arith in
    ap (delimiter_bits lines) (c.loop-block.invariant ∙ ap (last_numbers b) all)
    ∙ last_bits b lines some
    ∙ ap (λ (m : ℕ). delimiters_of m (map key_bits lines)) c.full_size-size.ensures.value
