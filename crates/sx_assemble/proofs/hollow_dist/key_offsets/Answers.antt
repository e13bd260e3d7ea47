use Rattle.std.proofs.Common.{◌≡◌, ◌∙◌, List, length, map, ap, arith}
use Rattle.std.proofs.lemmas.List.{length-map}
use Rattle.sx_spec_strings.specs.Bits.{key_bits}
use Rattle.sx_spec_kinds.specs.Blocks.{block_size}
use Rattle.sx_spec_kinds.specs.Pairs.{offsets_pairs}
use Rattle.sx_spec.specs.declared.Signature.{Signature}
use Rattle.sx_parts.specs.Assembling.{key_signature}
use Rattle.sx_parts.specs.Ranking.{offset_numbers}
use Rattle.sx_parts.proofs.KeyPairs.{least_of, offsets_are}
use Rattle.sx_parts.proofs.SignedEnds.{few_signatures}
use Rattle.sx_assemble.proofs.hollow_dist.key_offsets.Goals as goal

pub offsets_function-requires-clause-few : goal.offsets_function-requires-clause-few
offsets_function-requires-clause-few c =
    let few = few_signatures c.args.keys.now c.sign_keys.ensures.keys c.args.seed c.args.plan.now.sig_bits c.deref.result.now (c.deref.ensures.value ∙ c.in_ok-sigs.ensures.signed) in
    omega arith

pub returns-clause-built : goal.returns-clause-built
returns-clause-built c =
    let lines = c.args.keys.now.lines in
    let plan = c.args.plan.now in
    let b = block_size plan.log_bucket in
    let sigs = c.deref.result.now in
    let signed = c.deref.ensures.value ∙ c.in_ok-sigs.ensures.signed in
    let as_many : length sigs ≡ length lines = ap (λ (l : List Signature). length l) signed ∙ length-map lines (key_signature c.args.seed plan.sig_bits) in
    let numbers = offset_numbers b (length sigs) in
    let are = offsets_are plan.sig_bits c.args.seed lines b sigs numbers signed (ap (offset_numbers b) as_many) in
    least_of plan c.args.seed 0 (offsets_pairs b (map key_bits lines)) sigs numbers are c.offsets_function.result c.offsets_function.ensures.built
