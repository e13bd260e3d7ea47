use Rattle.std.proofs.Common.{◌≡◌, ◌-◌, Bool, List, [], length, take, drop, min, refl, sym, ap, ap₂, ◌∙◌, arith}
use Rattle.std.proofs.lemmas.List.{get_or-map}
use Rattle.sx_spec_strings.specs.Bits.{key_bits}
use Rattle.sx_bits.specs.Views.{bits_of}
use Rattle.sx_pairs.specs.Pairs.{key_at, own_fragment, node_fragment, node_turn}
use Rattle.sx_pairs.proofs.NodeFragments.{take_min, as_long_as}
use Rattle.sx_pairs.proofs.nodes.pair_at.Goals as goal

pub range-fragment-requires-clause-ordered : goal.range-fragment-requires-clause-ordered
range-fragment-requires-clause-ordered c =
    let lines = c.args.keys.now.lines in
    let n = c.args.node.now in
    let more = as_long_as n.name (key_at lines c.args.key) (key_at lines n.key) c.requires.visited.named c.requires.visits in
    let e = c.requires.end in
    let o = c.requires.visited.ordered in
    omega arith

pub returns : goal.returns
returns c =
    let lines = c.args.keys.now.lines in
    let n = c.args.node.now in
    let x = key_at lines c.args.key in
    let d = key_at lines n.key in
    let key = get_or-map key_bits lines c.args.key [] [] c.requires.inside in
    let cut : take (c.args.to - n.name) (drop n.name x) ≡ node_fragment n x =
    ap (λ t. take (t - n.name) (drop n.name x)) c.requires.end ∙ take_min n.extent n.name x in
    let fragment : bits_of c.range-fragment.result ≡ node_fragment n x =
    c.range-fragment.ensures ∙ ap (λ (y : List Bool). take (c.args.to - n.name) (drop n.name y)) c.key_view.ensures ∙ cut in
    let most : c.min.result ≡ min n.extent (length d) = c.min.ensures ∙ ap (min n.extent) (c.len.ensures.value ∙ ap length c.key_view-own.ensures) in
    let own : bits_of c.range-own.result ≡ own_fragment lines n =
    c.range-own.ensures ∙ ap₂ (λ t (y : List Bool). take (t - n.name) (drop n.name y)) most c.key_view-own.ensures ∙ take_min n.extent n.name d in
    record {
      lies = record {
        key = c.requires.inside;
        ordered =
            let more = as_long_as n.name x d c.requires.visited.named c.requires.visits in
            let e = c.requires.end in
            let o = c.requires.visited.ordered in
            omega arith;
        within = let e = c.requires.end in let l = ap length key in omega arith;
      };
      tag = refl;
      fragment = ap (λ (y : List Bool). take (c.args.to - n.name) (drop n.name y)) (sym key) ∙ cut;
      turn = c.turn_of.ensures ∙ ap₂ (node_turn n.leaf) own fragment;
    }
