use Rattle.std.proofs.Common.{◌≡◌, ◌∙◌, ℕ, List, length, map, ap, sym, arith}
use Rattle.std.proofs.lemmas.List.{length-map}
use Rattle.sx_spec_strings.specs.Bits.{key_bits}
use Rattle.sx_spec_kinds.specs.Blocks.{block_size, delimiters_of}
use Rattle.sx_spec_kinds.specs.Pairs.{turns_pairs}
use Rattle.sx_spec.specs.declared.Signature.{Signature}
use Rattle.sx_pairs.specs.declared.turn.NodePair.{NodePair}
use Rattle.sx_pairs.specs.declared.turn.Turn.{Turn}
use Rattle.sx_pairs.specs.Pairs.{turn_number}
use Rattle.sx_parts.specs.Sectioning.{piece_signature}
use Rattle.sx_assemble.proofs.HollowDistDumps.{turns_are}
use Rattle.sx_parts.proofs.KeyPairs.{least_of}
use Rattle.sx_parts.proofs.KeyParts.{map_map}
use Rattle.sx_assemble.proofs.hollow_dist.turns_function.Goals as goal

pub build_least-requires-clause-numbers : goal.build_least-requires-clause-numbers
build_least-requires-clause-numbers c =
    let signature : NodePair → Signature = λ (p : NodePair). piece_signature c.args.seed c.args.plan.now.sig_bits c.args.keys.now.lines p.piece in
    let turn : NodePair → Turn = λ (p : NodePair). p.turn in
    let pairs = c.in_ok-pairs.pairs.items in
    let turns = c.deref-3.ensures.value ∙ c.in_ok-turns.ensures ∙ ap (map turn) c.deref.ensures.value in
    let signed = c.deref-4.ensures.value ∙ c.in_ok-sigs.ensures ∙ ap (map signature) c.deref-2.ensures.value in
    let numbered = c.deref-5.ensures.value ∙ c.in_ok-numbers.ensures ∙ ap (map turn_number) turns in
    ap (λ (l : List ℕ). length l) numbered
    ∙ length-map (map turn pairs) turn_number
    ∙ length-map pairs turn
    ∙ sym (length-map pairs signature)
    ∙ sym (ap (λ (l : List Signature). length l) signed)

pub build_least-requires-clause-few : goal.build_least-requires-clause-few
build_least-requires-clause-few c =
    let signature : NodePair → Signature = λ (p : NodePair). piece_signature c.args.seed c.args.plan.now.sig_bits c.args.keys.now.lines p.piece in
    let pairs = c.in_ok-pairs.pairs.items in
    let signed = c.deref-4.ensures.value ∙ c.in_ok-sigs.ensures ∙ ap (map signature) c.deref-2.ensures.value in
    let count : length c.deref-4.result.now ≡ length pairs = ap (λ (l : List Signature). length l) signed ∙ length-map pairs signature in
    let few = c.in_ok-pairs.ensures.few in
    omega arith

pub returns-clause-built : goal.returns-clause-built
returns-clause-built c =
    let lines = c.args.keys.now.lines in
    let plan = c.args.plan.now in
    let keys = map key_bits lines in
    let ds = delimiters_of (block_size plan.log_bucket) keys in
    let signature : NodePair → Signature = λ (p : NodePair). piece_signature c.args.seed plan.sig_bits lines p.piece in
    let turn : NodePair → Turn = λ (p : NodePair). p.turn in
    let pairs = c.in_ok-pairs.pairs.items in
    let turns = c.deref-3.ensures.value ∙ c.in_ok-turns.ensures ∙ ap (map turn) c.deref.ensures.value in
    let signed = c.deref-4.ensures.value ∙ c.in_ok-sigs.ensures ∙ ap (map signature) c.deref-2.ensures.value in
    let numbered = c.deref-5.ensures.value ∙ c.in_ok-numbers.ensures ∙ ap (map turn_number) turns ∙ map_map turn_number turn pairs in
    let are = turns_are plan.sig_bits c.args.seed lines ds pairs c.deref-4.result.now c.deref-5.result.now c.in_ok-pairs.ensures.strings signed numbered in
    least_of plan c.args.seed 1 (turns_pairs keys ds) c.deref-4.result.now c.deref-5.result.now are c.build_least.result c.build_least.ensures.built
