use Rattle.std.proofs.Common.{◌∙◌, arith}
use Rattle.sx_spec.specs.Reply.{gaps}
use Rattle.sx_spec_kinds.specs.Hollow.{goes}
use Rattle.sx_bits.specs.Views.{bits_of}
use Rattle.sx_static.specs.Reading.{answers_by}
use Rattle.sx_hollow.specs.Views.{sums_read}
use Rattle.sx_hollow.specs.Walks.{stand_of}
use Rattle.sx_hollow.proofs.Asking.{no_delimiters, rest_ends, rest_leaf, rest_lost, rest_starts, rest_steps}
use Rattle.sx_hollow.proofs.dist.HollowDistView.block.Goals as goal

pub returns-then-self-eq0-clause-value : goal.returns-then-self-eq0-clause-value
returns-then-self-eq0-clause-value g c =
    let v = c.args.self.now in
    no_delimiters (gaps (sums_read v.left)) (gaps (sums_read v.skip)) (answers_by v.turns c.args.seed c.args.sig_bits) v.delimiters (bits_of c.args.view.now) c.if-self-eq0.true

pub loop-at-init : goal.loop-at-init
loop-at-init g c =
    let v = c.args.self.now in
    let some = c.if-self-eq0.false in
    record {
      some = omega arith;
      node = omega arith;
      first = omega arith;
      within = omega arith;
      counted = omega arith;
      cost = omega arith;
      rest = rest_starts (gaps (sums_read v.left)) (gaps (sums_read v.skip)) (answers_by v.turns c.args.seed c.args.sig_bits) v.delimiters (bits_of c.args.view.now) (omega arith);
    }

pub returns-in-Ends-clause-value : goal.returns-in-Ends-clause-value
returns-in-Ends-clause-value g c =
    let v = c.args.self.now in
    rest_ends (gaps (sums_read v.left)) (gaps (sums_read v.skip)) (answers_by v.turns c.args.seed c.args.sig_bits) v.delimiters (bits_of c.args.view.now) (goes (stand_of c.loop-at.at)) c.loop-at.at.leaves c.in-Ends.block c.loop-at.invariant.rest c.in-Ends.ensures.value

pub returns-in-Lost-clause-value : goal.returns-in-Lost-clause-value
returns-in-Lost-clause-value g c =
    let v = c.args.self.now in
    rest_lost (gaps (sums_read v.left)) (gaps (sums_read v.skip)) (answers_by v.turns c.args.seed c.args.sig_bits) v.delimiters (bits_of c.args.view.now) (goes (stand_of c.loop-at.at)) c.loop-at.at.leaves c.loop-at.invariant.rest c.in-Lost.ensures.value

pub loop-at-preserved : goal.loop-at-preserved
loop-at-preserved g c =
    let v = c.args.self.now in
    let next = c.in-Goes.next in
    let later = c.in-Goes.ensures.later in
    let so_far = c.loop-at.invariant.counted in
    let spent = c.loop-at.invariant.cost in
    let counted = c.in-Goes.ensures.counted in
    let farther = later.farther in
    let reserve = c.in-Goes.ensures.reserve in
    let node_before = c.loop-at.invariant.node in
    let node = later.node in
    let first_before = c.loop-at.invariant.first in
    let first = later.first in
    record {
      some = later.some;
      node = omega arith;
      first = omega arith;
      within = later.within;
      counted = omega arith;
      cost = omega arith;
      rest = rest_steps (gaps (sums_read v.left)) (gaps (sums_read v.skip)) (answers_by v.turns c.args.seed c.args.sig_bits) v.delimiters (bits_of c.args.view.now) (goes (stand_of c.loop-at.at)) (goes (stand_of next)) c.loop-at.at.leaves next.leaves c.loop-at.invariant.rest later.fewer c.in-Goes.ensures.value;
    }

pub returns-clause-value : goal.returns-clause-value
returns-clause-value g c =
    let v = c.args.self.now in
    let some = c.loop-at.invariant.some in
    let few = c.loop-at-test.false in
    c.ask_at_leaf.ensures.value
    ∙ rest_leaf (gaps (sums_read v.left)) (gaps (sums_read v.skip)) (answers_by v.turns c.args.seed c.args.sig_bits) v.delimiters (bits_of c.args.view.now) (stand_of c.loop-at.at) c.loop-at.at.leaves c.loop-at.invariant.rest (omega arith)
