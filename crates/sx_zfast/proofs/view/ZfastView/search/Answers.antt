use Rattle.std.proofs.Common.{arith}
use Rattle.sx_bits.specs.Views.{bits_of}
use Rattle.sx_zfast.specs.Maps.{map_read, numbers_read}
use Rattle.sx_zfast.proofs.SearchTurns.{left_costs, left_ends, left_onward, left_shorter, left_starts}
use Rattle.sx_zfast.proofs.view.ZfastView.search.Goals as goal

pub loop-at-init : goal.loop-at-init
loop-at-init g c =
    let v = c.args.self.now in
    let some = c.requires.some in
    let whole = c.len-limit.ensures.value in
    record {
      inside = omega arith;
      extent = c.read_narrow.ensures.value;
      limit = omega arith;
      counted = omega arith;
      left = left_starts (map_read v.map c.args.signing.seed c.args.signing.sig_bits) (numbers_read v.extents) (bits_of c.args.view.now) c.read_narrow.new.steps c.len-limit.result c.read_narrow.new.steps whole (omega arith);
    }

pub loop-at-preserved-in-Some : goal.loop-at-preserved-in-Some
loop-at-preserved-in-Some g c =
    let v = c.args.self.now in
    let at = c.loop-at in
    let next = c.in-Some.next in
    let within = c.fattest-len.ensures.within in
    let limit = at.invariant.limit in
    let so_far = at.invariant.counted in
    let counted = c.in-Some.ensures.counted in
    let long = c.in-Some.ensures.long in
    let is = c.in-Some.ensures.extent in
    record {
      inside = c.in-Some.ensures.inside;
      extent = is;
      limit = limit;
      counted = omega arith;
      left = left_onward (map_read v.map c.args.signing.seed c.args.signing.sig_bits) (numbers_read v.extents) (bits_of c.args.view.now) c.read_narrow.new.steps at.at.node at.limit at.steps at.at.extent c.fattest-len.result c.reached.new.steps
          at.invariant.left at.invariant.extent c.loop-at-test.true c.fattest-len.ensures.value c.fattest-len.ensures.above within (omega arith) c.in-Some.ensures.cost next.node c.in-Some.ensures.value (omega arith);
    }

pub loop-at-preserved : goal.loop-at-preserved
loop-at-preserved g c =
    let v = c.args.self.now in
    let at = c.loop-at in
    let within = c.fattest-len.ensures.within in
    let limit = at.invariant.limit in
    let so_far = at.invariant.counted in
    let counted = c.in-None.ensures.counted in
    record {
      inside = at.invariant.inside;
      extent = at.invariant.extent;
      limit = omega arith;
      counted = omega arith;
      left = left_shorter (map_read v.map c.args.signing.seed c.args.signing.sig_bits) (numbers_read v.extents) (bits_of c.args.view.now) c.read_narrow.new.steps at.at.node at.limit at.steps at.at.extent c.fattest-len.result c.reached.new.steps
          at.invariant.left at.invariant.extent c.loop-at-test.true c.fattest-len.ensures.value c.fattest-len.ensures.above within (omega arith) c.in-None.ensures.cost c.in-None.ensures.value;
    }

pub returns-clause-value : goal.returns-clause-value
returns-clause-value g c =
    let v = c.args.self.now in
    let at = c.loop-at in
    let is = at.invariant.extent in
    let met = c.loop-at-test.false in
    left_ends (map_read v.map c.args.signing.seed c.args.signing.sig_bits) (numbers_read v.extents) (bits_of c.args.view.now) c.read_narrow.new.steps at.at.node at.limit at.steps at.invariant.left (omega arith)

pub returns-clause-cost : goal.returns-clause-cost
returns-clause-cost g c =
    let v = c.args.self.now in
    let at = c.loop-at in
    let is = at.invariant.extent in
    let met = c.loop-at-test.false in
    let first = c.read_narrow.ensures.cost in
    let rest = left_costs (map_read v.map c.args.signing.seed c.args.signing.sig_bits) (numbers_read v.extents) (bits_of c.args.view.now) c.read_narrow.new.steps at.at.node at.limit at.steps at.invariant.left (omega arith) in
    omega arith
