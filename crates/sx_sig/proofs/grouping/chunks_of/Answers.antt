use Rattle.std.proofs.Common.{◌≡◌, ◌*◌, ◌%◌, ◌^◌, ◌<◌, ◌≤◌, ℕ, List, [], length, map, take, arith, ap, subst, ◌∙◌, replicate, get_or}
use Rattle.std.proofs.Math.Pow.{pow_mono}
use Rattle.std.proofs.lemmas.List.{length-map, get_or_default, take_all}
use Rattle.std.proofs.lemmas.List.Elements.{All-more}
use Rattle.sx_spec.specs.declared.Signature.{Signature}
use Rattle.sx_spec.specs.Chunks.{chunk_of}
use Rattle.sx_sig.specs.Grouping.{GathersEqual}
use Rattle.sx_sig.proofs.Groups.{number_put, none_put, lists_count}
use Rattle.sx_sig.proofs.EqualPairs.{gathers}
use Rattle.sx_sig.proofs.grouping.chunks_of.Goals as goal

pub loop-number-init : goal.loop-number-init
loop-number-init c =
    let few : 2 ^ c.args.c ≤ 2 ^ 32 = pow_mono c.requires.bits in
    let e : 1 * 2 ^ c.args.c % 2 ^ 64 ≡ 2 ^ c.args.c = omega arith in
    record {
      lists = c.in_ok-chunks.ensures ∙ ap (λ (n : ℕ). replicate n []) e ∙ none_put c.args.c (2 ^ c.args.c);
      within = λ k d lt. absurd (omega arith);
    }

pub put-requires : goal.put-requires
put-requires c =
    let count = lists_count c.args.c (2 ^ c.args.c) (take c.loop-number.number c.args.sigs.now) (map (λ u. u.items) c.loop-number.chunks.items) c.loop-number.invariant.lists in
    let same : length (map (λ u. u.items) c.loop-number.chunks.items) ≡ length c.loop-number.chunks.items = length-map c.loop-number.chunks.items (λ u. u.items) in
    let lt = c.chunk_index.ensures.within in
    omega arith

pub loop-number-preserved : goal.loop-number-preserved
loop-number-preserved c =
    let i = c.loop-number.number in
    let sig : Signature = get_or c.args.sigs.now i (record { w0 = 0; w1 = 0; w2 = 0 }) in
    record {
      lists = c.in_ok-put.ensures ∙ number_put c.args.c (2 ^ c.args.c) c.args.sigs.now (map (λ u. u.items) c.loop-number.chunks.items) i c.chunk_index.result sig c.loop-number-test.true (get_or_default c.args.sigs.now i (record { w0 = 0; w1 = 0; w2 = 0 }) sig c.loop-number-test.true) c.chunk_index.ensures.value c.chunk_index.ensures.within c.loop-number.invariant.lists;
      within = All-more (λ s. chunk_of s c.args.c < 2 ^ c.args.c) c.args.sigs.now i (record { w0 = 0; w1 = 0; w2 = 0 }) c.loop-number-test.true c.loop-number.invariant.within (subst (λ (n : ℕ). n < 2 ^ c.args.c) c.chunk_index.ensures.value c.chunk_index.ensures.within);
    }

pub returns-clause-gathers : goal.returns-clause-gathers
returns-clause-gathers c =
    let sigs = c.args.sigs.now in
    let whole : take c.loop-number.number sigs ≡ sigs = take_all c.loop-number.number sigs (omega arith) in
    let Q : List Signature → Type 0 = λ s. GathersEqual s (map (λ u. u.items) c.loop-number.chunks.items) in
    subst Q whole (gathers c.args.c (2 ^ c.args.c) (take c.loop-number.number sigs) (map (λ u. u.items) c.loop-number.chunks.items) c.loop-number.invariant.lists c.loop-number.invariant.within)
