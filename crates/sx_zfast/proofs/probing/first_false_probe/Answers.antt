use Rattle.std.proofs.Common.{◌≡◌, Some, refl, sym, ap, ◌∙◌, arith}
use Rattle.std.specs.Prelude.{take}
use Rattle.sx_spec_kinds.specs.Trie.{Node}
use Rattle.sx_spec_kinds.specs.Search.{handle_node, handles_of}
use Rattle.sx_bits.specs.Views.{bits_of}
use Rattle.sx_zfast.specs.Maps.{map_read}
use Rattle.sx_zfast.proofs.ProbeStages.{lens_in, extents_in, is_trie, nodes_some, telling_starts, telling_ends, telling_finds, telling_onward, telling_shorter, handle_no_probe, other_probe, none_reached, deeper}
use Rattle.sx_zfast.proofs.probing.first_false_probe.Goals as goal

pub loop-limit-init : goal.loop-limit-init
loop-limit-init g c =
    let size = c.len-limit.ensures.value in
    record {
      counted = omega arith;
      inside = nodes_some c.args.keys.now.lines c.args.reach.now.trie.now c.requires.built c.requires.some;
      limit = omega arith;
      search = telling_starts (map_read c.args.map.now c.args.signing.seed c.args.signing.sig_bits) c.args.keys.now.lines c.args.reach.now.trie.now (bits_of c.args.view.now) _ c.requires.built size;
    }

pub returns-then-limit-depth-clause-value : goal.returns-then-limit-depth-clause-value
returns-then-limit-depth-clause-value g c =
    telling_ends (map_read c.args.map.now c.args.signing.seed c.args.signing.sig_bits) c.args.keys.now.lines c.args.reach.now.trie.now (bits_of c.args.view.now) c.loop-limit.at c.loop-limit.limit c.node-depth.result.extent c.loop-limit.invariant.search (ap (λ (n : Node). n.extent) c.node-depth.ensures) c.if-limit-depth.true

pub loop-limit-smaller-in-Some-reached : goal.loop-limit-smaller-in-Some-reached
loop-limit-smaller-in-Some-reached g c =
    let over = c.if-limit-depth.false in
    deeper c.args.reach.now.trie.now.nodes c.loop-limit.at c.loop-limit.limit c.node-depth.result.extent c.fattest-len.result (Some c.from.result) c.in-Some-reached.node (ap (λ (n : Node). n.extent) c.node-depth.ensures) (omega arith) c.fattest-len.ensures.value (sym c.in-Some-reached.ensures.value)

pub loop-limit-preserved-in-Some-reached : goal.loop-limit-preserved-in-Some-reached
loop-limit-preserved-in-Some-reached g c =
    let lines = c.args.keys.now.lines in
    let t = c.args.reach.now.trie.now in
    let x = bits_of c.args.view.now in
    let over = c.if-limit-depth.false in
    let long = c.loop-limit.invariant.limit in
    let within = c.fattest-len.ensures.within in
    let counted = c.loop-limit.invariant.counted in
    let told : c.handled.result ≡ handle_node (handles_of (extents_in lines t)) (take c.fattest-len.result x) =
    c.handled.ensures (extents_in lines t) x (is_trie lines t c.requires.built) c.requires.way (omega arith)
    in
    record {
      counted = omega arith;
      inside = c.in-Some-reached.ensures.inside;
      limit = long;
      search = telling_onward (map_read c.args.map.now c.args.signing.seed c.args.signing.sig_bits) lines t x c.loop-limit.at c.loop-limit.limit c.node-depth.result.extent c.fattest-len.result (Some c.from.result) c.from.result c.in-Some-reached.node
          c.loop-limit.invariant.search
          (record { deep = ap (λ (n : Node). n.extent) c.node-depth.ensures; more = omega arith; inside = long; size = c.fattest-len.ensures.value })
          (ap Some c.from.ensures ∙ sym c.in-Some.is ∙ told)
          refl
          (sym c.in-Some-reached.ensures.value);
    }

pub loop-limit-preserved-in-None-reached : goal.loop-limit-preserved-in-None-reached
loop-limit-preserved-in-None-reached g c =
    let lines = c.args.keys.now.lines in
    let t = c.args.reach.now.trie.now in
    let x = bits_of c.args.view.now in
    let over = c.if-limit-depth.false in
    let long = c.loop-limit.invariant.limit in
    let within = c.fattest-len.ensures.within in
    let counted = c.loop-limit.invariant.counted in
    let told : c.handled.result ≡ handle_node (handles_of (extents_in lines t)) (take c.fattest-len.result x) =
    c.handled.ensures (extents_in lines t) x (is_trie lines t c.requires.built) c.requires.way (omega arith)
    in
    record {
      counted = omega arith;
      inside = c.loop-limit.invariant.inside;
      limit = omega arith;
      search = telling_shorter (map_read c.args.map.now c.args.signing.seed c.args.signing.sig_bits) lines t x c.loop-limit.at c.loop-limit.limit c.node-depth.result.extent c.fattest-len.result (Some c.from.result)
          c.loop-limit.invariant.search
          (record { deep = ap (λ (n : Node). n.extent) c.node-depth.ensures; more = omega arith; inside = long; size = c.fattest-len.ensures.value })
          (ap Some c.from.ensures ∙ sym c.in-Some.is ∙ told)
          (sym c.in-None-reached.ensures.value)
          (handle_no_probe (map_read c.args.map.now c.args.signing.seed c.args.signing.sig_bits) (extents_in lines t) x c.fattest-len.result c.in-Some.node (sym told ∙ c.in-Some.is));
    }

pub returns-then-misleads-clause-value : goal.returns-then-misleads-clause-value
returns-then-misleads-clause-value g c =
    let m = map_read c.args.map.now c.args.signing.seed c.args.signing.sig_bits in
    let lines = c.args.keys.now.lines in
    let t = c.args.reach.now.trie.now in
    let x = bits_of c.args.view.now in
    let over = c.if-limit-depth.false in
    let long = c.loop-limit.invariant.limit in
    let within = c.fattest-len.ensures.within in
    let told : c.handled.result ≡ handle_node (handles_of (extents_in lines t)) (take c.fattest-len.result x) =
    c.handled.ensures (extents_in lines t) x (is_trie lines t c.requires.built) c.requires.way (omega arith)
    in
    telling_finds m lines t x c.loop-limit.at c.loop-limit.limit c.node-depth.result.extent c.fattest-len.result c.loop-limit.invariant.search (ap (λ (n : Node). n.extent) c.node-depth.ensures) (omega arith) c.fattest-len.ensures.value
    (other_probe m lines t x c.fattest-len.result _ c.requires.built (omega arith) (sym told ∙ c.in-None.is) refl ∙ sym c.misleads.ensures.value ∙ c.if-misleads.true)

pub loop-limit-preserved : goal.loop-limit-preserved
loop-limit-preserved g c =
    let m = map_read c.args.map.now c.args.signing.seed c.args.signing.sig_bits in
    let lines = c.args.keys.now.lines in
    let t = c.args.reach.now.trie.now in
    let x = bits_of c.args.view.now in
    let over = c.if-limit-depth.false in
    let long = c.loop-limit.invariant.limit in
    let within = c.fattest-len.ensures.within in
    let counted = c.loop-limit.invariant.counted in
    let more = c.misleads.ensures.counted in
    let told : c.handled.result ≡ handle_node (handles_of (extents_in lines t)) (take c.fattest-len.result x) =
    c.handled.ensures (extents_in lines t) x (is_trie lines t c.requires.built) c.requires.way (omega arith)
    in
    record {
      counted = omega arith;
      inside = c.loop-limit.invariant.inside;
      limit = omega arith;
      search = telling_shorter m lines t x c.loop-limit.at c.loop-limit.limit c.node-depth.result.extent c.fattest-len.result c.handled.result
          c.loop-limit.invariant.search
          (record { deep = ap (λ (n : Node). n.extent) c.node-depth.ensures; more = omega arith; inside = long; size = c.fattest-len.ensures.value })
          told
          (none_reached (lens_in t.nodes) c.fattest-len.result c.handled.result c.in-None.is)
          (other_probe m lines t x c.fattest-len.result _ c.requires.built (omega arith) (sym told ∙ c.in-None.is) refl ∙ sym c.misleads.ensures.value ∙ c.if-misleads.false);
    }
