use Rattle.std.proofs.Common.{◌≡◌, ◌∙◌, ◌<◌, ℕ, List, length, map, ap, sym, arith}
use Rattle.std.specs.List.{range_with_len}
use Rattle.std.proofs.lemmas.List.FromFn.{length-range_with_len}
use Rattle.std.proofs.Math.Pow.{pow_pos}
use Rattle.sx_spec_strings.specs.Bits.{key_bits}
use Rattle.sx_spec_kinds.specs.Blocks.{block_size}
use Rattle.sx_spec_kinds.specs.Pairs.{prefixes_pairs}
use Rattle.sx_spec.specs.declared.Signature.{Signature}
use Rattle.sx_parts.proofs.KeyPairs.{least_of, prefixes_are, prefixes_few}
use Rattle.sx_assemble.proofs.lcp.prefixes_function.Goals as goal

pub overflow_cast-len : goal.overflow_cast-len
overflow_cast-len c =
    let lines = c.args.keys.now.lines in
    let b = block_size c.args.plan.now.log_bucket in
    let some : 0 < b = pow_pos c.args.plan.now.log_bucket in
    let few = prefixes_few c.args.plan.now.sig_bits c.args.seed lines b c.args.pieces.now c.in_ok-sigs.sigs.items some c.requires.prefixes c.in_ok-sigs.ensures in
    let long : c.len.result ≡ length c.in_ok-sigs.sigs.items = c.len.ensures ∙ c.in_ok-sigs.sigs.ok.0 in
    omega (arith, c.requires.few)

pub build_least-requires-clause-numbers : goal.build_least-requires-clause-numbers
build_least-requires-clause-numbers c =
    let long : c.len.result ≡ length c.in_ok-sigs.sigs.items = c.len.ensures ∙ c.in_ok-sigs.sigs.ok.0 in
    ap (λ (l : List ℕ). length l) (c.deref-2.ensures.value ∙ c.in_ok-numbers.ensures)
    ∙ length-range_with_len 0 c.len.result
    ∙ long
    ∙ sym (ap (λ (l : List Signature). length l) c.deref.ensures.value)

pub build_least-requires-clause-few : goal.build_least-requires-clause-few
build_least-requires-clause-few c =
    let lines = c.args.keys.now.lines in
    let b = block_size c.args.plan.now.log_bucket in
    let some : 0 < b = pow_pos c.args.plan.now.log_bucket in
    let few = prefixes_few c.args.plan.now.sig_bits c.args.seed lines b c.args.pieces.now c.in_ok-sigs.sigs.items some c.requires.prefixes c.in_ok-sigs.ensures in
    let same = ap (λ (l : List Signature). length l) c.deref.ensures.value in
    omega (arith, c.requires.few)

pub returns-clause-built : goal.returns-clause-built
returns-clause-built c =
    let lines = c.args.keys.now.lines in
    let plan = c.args.plan.now in
    let b = block_size plan.log_bucket in
    let sigs = c.deref.result.now in
    let long : c.len.result ≡ length c.in_ok-sigs.sigs.items = c.len.ensures ∙ c.in_ok-sigs.sigs.ok.0 in
    let same = ap (λ (l : List Signature). length l) c.deref.ensures.value in
    least_of plan c.args.seed c.args.part (prefixes_pairs b (map key_bits lines)) sigs c.deref-2.result.now
    (prefixes_are plan.sig_bits c.args.seed lines b c.args.pieces.now sigs c.deref-2.result.now c.requires.prefixes
    (c.deref.ensures.value ∙ c.in_ok-sigs.ensures) (c.deref-2.ensures.value ∙ c.in_ok-numbers.ensures ∙ ap (range_with_len 0) (long ∙ sym same)))
    c.build_least.result c.build_least.ensures.built
