use Rattle.std.proofs.Common.{◌≡◌, ◌+◌, true, false, map, take, sym, ap, ◌∙◌, arith}
use Rattle.sx_spec_strings.specs.Bits.{begins_with, key_bits}
use Rattle.sx_spec_kinds.proofs.NameLaws.{begins_take}
use Rattle.sx_bits.proofs.KeyListBits.{key_list_bits}
use Rattle.std.proofs.lemmas.List.{length-map}
use Rattle.sx_pairs.specs.Pairs.{key_at}
use Rattle.sx_pairs.proofs.KeyRuns.{up_to, none_from}
use Rattle.sx_pairs.proofs.runs.end_of_run.Goals as goal

pub loop-low-init : goal.loop-low-init
loop-low-init c =
    let lines = c.args.keys.now.lines in
    let ks = map key_bits lines in
    let size = length-map lines key_bits in
    let p = take c.args.len (key_at lines c.args.at) in
    let own = begins_take c.args.len (key_at lines c.args.at) in
    let keys = key_list_bits c.args.keys.now c.len-high.ensures.keys in
    let many = c.len-high.ensures.value in
    record {
      above = omega arith;
      ordered = omega arith;
      within = omega arith;
      run = up_to ks keys c.args.at c.args.at p own (omega arith) own;
      beyond = λ i low high. absurd (omega arith);
    }

pub loop-low-preserved-then-begins : goal.loop-low-preserved-then-begins
loop-low-preserved-then-begins c =
    let lines = c.args.keys.now.lines in
    let ks = map key_bits lines in
    let size = length-map lines key_bits in
    let p = take c.args.len (key_at lines c.args.at) in
    let own = begins_take c.args.len (key_at lines c.args.at) in
    let keys = key_list_bits c.args.keys.now c.len-high.ensures.keys in
    let mid = c.loop-low.low + c.min-over.result in
    let found : begins_with (key_at lines mid) p ≡ true =
    ap (begins_with (key_at lines mid)) (ap (take c.args.len) (sym c.key_view.ensures) ∙ sym c.prefix-prefix.ensures) ∙ sym c.begins.ensures ∙ c.if-begins.true in
    let more = c.loop-low-test.true in
    record {
      above = omega arith;
      ordered = omega arith;
      within = omega arith;
      run = λ i low high. up_to ks keys c.args.at mid p own (omega arith) found i low (omega arith);
      beyond = c.loop-low.invariant.beyond;
    }

pub loop-low-preserved : goal.loop-low-preserved
loop-low-preserved c =
    let lines = c.args.keys.now.lines in
    let ks = map key_bits lines in
    let size = length-map lines key_bits in
    let p = take c.args.len (key_at lines c.args.at) in
    let own = begins_take c.args.len (key_at lines c.args.at) in
    let keys = key_list_bits c.args.keys.now c.len-high.ensures.keys in
    let mid = c.loop-low.low + c.min-over.result in
    let found : begins_with (key_at lines mid) p ≡ false =
    ap (begins_with (key_at lines mid)) (ap (take c.args.len) (sym c.key_view.ensures) ∙ sym c.prefix-prefix.ensures) ∙ sym c.begins.ensures ∙ c.if-begins.false in
    let more = c.loop-low-test.true in
    record {
      above = c.loop-low.invariant.above;
      ordered = omega arith;
      within = omega arith;
      run = c.loop-low.invariant.run;
      beyond = λ i low high. none_from ks keys c.args.at mid p own (omega arith) found i low (omega arith);
    }
