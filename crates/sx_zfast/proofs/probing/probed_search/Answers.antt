use Rattle.std.proofs.Common.{sym, ap, arith}
use Rattle.sx_spec_kinds.specs.Trie.{Node}
use Rattle.sx_bits.specs.Views.{bits_of}
use Rattle.sx_zfast.specs.Maps.{map_read}
use Rattle.sx_zfast.proofs.Beyond.{probing_beyond}
use Rattle.sx_zfast.proofs.ProbeStages.{extents_in, is_trie, nodes_some, probing_starts, probing_ends, probing_onward, probing_shorter, deeper}
use Rattle.sx_zfast.proofs.probing.probed_search.Goals as goal

pub loop-limit-init : goal.loop-limit-init
loop-limit-init g c =
    let size = c.len-limit.ensures.value in
    record {
      counted = omega arith;
      inside = nodes_some c.args.keys.now.lines c.args.reach.now.trie.now c.requires.built c.requires.some;
      limit = omega arith;
      memo = c.requires.memo;
      search = probing_starts (map_read c.args.map.now c.args.signing.seed c.args.signing.sig_bits) c.args.reach.now.trie.now.nodes (bits_of c.args.view.now) _ size;
    }

pub returns-then-limit-depth-clause-value : goal.returns-then-limit-depth-clause-value
returns-then-limit-depth-clause-value g c =
    probing_ends (map_read c.args.map.now c.args.signing.seed c.args.signing.sig_bits) c.args.reach.now.trie.now.nodes (bits_of c.args.view.now) c.loop-limit.at c.loop-limit.limit c.node-depth.result.extent c.loop-limit.invariant.search (ap (λ (n : Node). n.extent) c.node-depth.ensures) c.if-limit-depth.true

pub loop-limit-preserved-then-len-reach : goal.loop-limit-preserved-then-len-reach
loop-limit-preserved-then-len-reach g c =
    let over = c.if-limit-depth.false in
    let long = c.loop-limit.invariant.limit in
    let within = c.fattest-len.ensures.within in
    record {
      counted = c.loop-limit.invariant.counted;
      inside = c.loop-limit.invariant.inside;
      limit = omega arith;
      memo = c.loop-limit.invariant.memo;
      search = probing_beyond (map_read c.args.map.now c.args.signing.seed c.args.signing.sig_bits) c.args.reach.now.trie.now.nodes (bits_of c.args.view.now) c.loop-limit.at c.loop-limit.limit c.node-depth.result.extent c.fattest-len.result c.args.reach.now.longest
          c.loop-limit.invariant.search
          (record { deep = ap (λ (n : Node). n.extent) c.node-depth.ensures; more = omega arith; inside = long; size = c.fattest-len.ensures.value })
          c.args.reach.now.longest_extent
          c.if-len-reach.true;
    }

pub loop-limit-smaller-in-Some : goal.loop-limit-smaller-in-Some
loop-limit-smaller-in-Some g c =
    let over = c.if-limit-depth.false in
    deeper c.args.reach.now.trie.now.nodes c.loop-limit.at c.loop-limit.limit c.node-depth.result.extent c.fattest-len.result _ c.in-Some.node (ap (λ (n : Node). n.extent) c.node-depth.ensures) (omega arith) c.fattest-len.ensures.value (sym c.in-Some.ensures.value)

pub loop-limit-preserved-in-Some : goal.loop-limit-preserved-in-Some
loop-limit-preserved-in-Some g c =
    let lines = c.args.keys.now.lines in
    let t = c.args.reach.now.trie.now in
    let over = c.if-limit-depth.false in
    let more = c.answered-answer.ensures.counted in
    let counted = c.loop-limit.invariant.counted in
    record {
      counted = omega arith;
      inside = c.in-Some.ensures.inside;
      limit = c.loop-limit.invariant.limit;
      memo = c.answered-answer.ensures.memo;
      search = probing_onward (map_read c.args.map.now c.args.signing.seed c.args.signing.sig_bits) t.nodes (bits_of c.args.view.now) c.loop-limit.at c.loop-limit.limit c.node-depth.result.extent c.fattest-len.result _ c.in-Some.node
          c.loop-limit.invariant.search
          (record { deep = ap (λ (n : Node). n.extent) c.node-depth.ensures; more = omega arith; inside = c.loop-limit.invariant.limit; size = c.fattest-len.ensures.value })
          (c.answered-answer.ensures.value (extents_in lines t) (is_trie lines t c.requires.built) c.requires.way c.requires.knows)
          (sym c.in-Some.ensures.value);
    }

pub loop-limit-preserved : goal.loop-limit-preserved
loop-limit-preserved g c =
    let lines = c.args.keys.now.lines in
    let t = c.args.reach.now.trie.now in
    let over = c.if-limit-depth.false in
    let more = c.answered-answer.ensures.counted in
    let counted = c.loop-limit.invariant.counted in
    let long = c.loop-limit.invariant.limit in
    let within = c.fattest-len.ensures.within in
    record {
      counted = omega arith;
      inside = c.loop-limit.invariant.inside;
      limit = omega arith;
      memo = c.answered-answer.ensures.memo;
      search = probing_shorter (map_read c.args.map.now c.args.signing.seed c.args.signing.sig_bits) t.nodes (bits_of c.args.view.now) c.loop-limit.at c.loop-limit.limit c.node-depth.result.extent c.fattest-len.result _
          c.loop-limit.invariant.search
          (record { deep = ap (λ (n : Node). n.extent) c.node-depth.ensures; more = omega arith; inside = long; size = c.fattest-len.ensures.value })
          (c.answered-answer.ensures.value (extents_in lines t) (is_trie lines t c.requires.built) c.requires.way c.requires.knows)
          (sym c.in-None.ensures.value);
    }
