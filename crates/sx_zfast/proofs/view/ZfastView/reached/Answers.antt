use Rattle.std.proofs.Common.{◌<◌, ◌+◌, length, sym, take, arith}
use Rattle.sx_bits.specs.Views.{bits_of}
use Rattle.sx_spec_kinds.specs.Zfast.{probed_node}
use Rattle.sx_zfast.specs.Maps.{map_read, numbers_read}
use Rattle.sx_zfast.proofs.Longest.{reached_beyond}
use Rattle.sx_zfast.proofs.MapNodes.{node_inside}
use Rattle.sx_zfast.proofs.view.ZfastView.reached.Goals as goal

pub returns-then-len-self-clause-value : goal.returns-then-len-self-clause-value
returns-then-len-self-clause-value g c =
    let v = c.args.self.now in
    let beyond = c.if-len-self.true in
    let is = v.longest_extent in
    sym (reached_beyond (numbers_read v.extents) c.args.len (probed_node (map_read v.map c.args.signing.seed c.args.signing.sig_bits) (take c.args.len (bits_of c.args.view.now))) (omega arith))

pub read_narrow-extent-requires-clause-within : goal.read_narrow-extent-requires-clause-within
read_narrow-extent-requires-clause-within g c =
    let v = c.args.self.now in
    let inside = node_inside (map_read v.map c.args.signing.seed c.args.signing.sig_bits) (take c.args.len (bits_of c.args.view.now)) c.in_ok-node.node (sym c.in_ok-node.ensures.value) in
    let some = inside.0 in
    let few : c.in_ok-node.node < length (numbers_read v.map.kept) + 1 = inside.1 in
    let marks = v.marks in
    let all = v.all_extents in
    omega arith

pub returns-then-len-extent-clause-inside : goal.returns-then-len-extent-clause-inside
returns-then-len-extent-clause-inside g c =
    let v = c.args.self.now in
    let inside = node_inside (map_read v.map c.args.signing.seed c.args.signing.sig_bits) (take c.args.len (bits_of c.args.view.now)) c.in_ok-node.node (sym c.in_ok-node.ensures.value) in
    let some = inside.0 in
    let few : c.in_ok-node.node < length (numbers_read v.map.kept) + 1 = inside.1 in
    let marks = v.marks in
    omega arith
