use Rattle.std.proofs.Common.{◌≡◌, ◌-◌, true, false, map, take, sym, ap, ◌∙◌, arith}
use Rattle.sx_spec_strings.specs.Bits.{begins_with, key_bits}
use Rattle.sx_spec_kinds.proofs.NameLaws.{begins_take}
use Rattle.sx_bits.proofs.KeyListBits.{key_list_bits}
use Rattle.std.proofs.lemmas.List.{length-map}
use Rattle.sx_pairs.specs.Pairs.{key_at}
use Rattle.sx_pairs.proofs.KeyRuns.{down_to, none_to}
use Rattle.sx_pairs.proofs.runs.start_of_run.Goals as goal

pub loop-low-init : goal.loop-low-init
loop-low-init c =
    let lines = c.args.keys.now.lines in
    let ks = map key_bits lines in
    let size = length-map lines key_bits in
    let p = take c.args.len (key_at lines c.args.at) in
    let own = begins_take c.args.len (key_at lines c.args.at) in
    let keys = key_list_bits c.args.keys.now c.len-count.ensures.keys in
    record {
      ordered = omega arith;
      within = omega arith;
      run = down_to ks keys c.args.at c.args.at p own (omega arith) own;
      before = λ i high. absurd (omega arith);
    }

pub loop-low-preserved-then-begins : goal.loop-low-preserved-then-begins
loop-low-preserved-then-begins c =
    let lines = c.args.keys.now.lines in
    let ks = map key_bits lines in
    let size = length-map lines key_bits in
    let p = take c.args.len (key_at lines c.args.at) in
    let own = begins_take c.args.len (key_at lines c.args.at) in
    let keys = key_list_bits c.args.keys.now c.len-count.ensures.keys in
    let mid = c.loop-low.high - 1 - c.min-over.result in
    let found : begins_with (key_at lines mid) p ≡ true =
    ap (begins_with (key_at lines mid)) (ap (take c.args.len) (sym c.key_view.ensures) ∙ sym c.prefix-prefix.ensures) ∙ sym c.begins.ensures ∙ c.if-begins.true in
    let more = c.loop-low-test.true in
    record {
      ordered = omega arith;
      within = omega arith;
      run = λ i low high. down_to ks keys c.args.at mid p own (omega arith) found i (omega arith) high;
      before = c.loop-low.invariant.before;
    }

pub loop-low-preserved : goal.loop-low-preserved
loop-low-preserved c =
    let lines = c.args.keys.now.lines in
    let ks = map key_bits lines in
    let size = length-map lines key_bits in
    let p = take c.args.len (key_at lines c.args.at) in
    let own = begins_take c.args.len (key_at lines c.args.at) in
    let keys = key_list_bits c.args.keys.now c.len-count.ensures.keys in
    let mid = c.loop-low.high - 1 - c.min-over.result in
    let found : begins_with (key_at lines mid) p ≡ false =
    ap (begins_with (key_at lines mid)) (ap (take c.args.len) (sym c.key_view.ensures) ∙ sym c.prefix-prefix.ensures) ∙ sym c.begins.ensures ∙ c.if-begins.false in
    let more = c.loop-low-test.true in
    record {
      ordered = omega arith;
      within = omega arith;
      run = c.loop-low.invariant.run;
      before = λ i high. none_to ks keys c.args.at mid p own (omega arith) (omega arith) found i (omega arith);
    }
