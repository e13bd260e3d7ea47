use Rattle.std.proofs.Common.{refl, ◌∙◌, arith, inl, inr}
use Rattle.std.proofs.lemmas.Bool.{cases_eq}
use Rattle.sx_spec.specs.Reply.{gaps}
use Rattle.sx_spec_kinds.specs.Hollow.{goes, lost}
use Rattle.sx_bits.specs.Views.{bits_of}
use Rattle.sx_hollow.specs.Views.{sums_read}
use Rattle.sx_hollow.specs.Walks.{stand_of}
use Rattle.sx_hollow.proofs.Descents.{step_by_entry}
use Rattle.sx_hollow.proofs.Rest.{rest_starts, rest_steps, rest_lost, rest_short, rest_leaf, rest_none}
use Rattle.sx_hollow.proofs.view.HollowView.answer.Goals as goal

pub loop-at-init : goal.loop-at-init
loop-at-init g c =
    let v = c.args.self.now in
    record {
      node = omega arith;
      first = omega arith;
      short = omega arith;
      counted = omega arith;
      cost = omega arith;
      rest = rest_starts (gaps (sums_read v.left)) (gaps (sums_read v.skip)) v.keys (bits_of c.args.view.now) (record { node = 0; leaves = v.keys; first = 0; pos = 0 }) refl refl refl refl;
    }

pub returns-then-len-at-clause-value : goal.returns-then-len-at-clause-value
returns-then-len-at-clause-value g c =
    let v = c.args.self.now in
    let len = c.len-len.ensures.value in
    let short = c.if-len-at.true in
    rest_short (gaps (sums_read v.left)) (gaps (sums_read v.skip)) v.keys (bits_of c.args.view.now) (stand_of c.loop-at.at) c.loop-at.invariant.rest c.loop-at-test.true (omega arith)

pub returns-in_err-at-clause-value : goal.returns-in_err-at-clause-value
returns-in_err-at-clause-value g c =
    let v = c.args.self.now in
    let left = gaps (sums_read v.left) in
    let skip = gaps (sums_read v.skip) in
    let x = bits_of c.args.view.now in
    let at = c.loop-at.at in
    let is = step_by_entry left skip x (stand_of at) lost c.in-Some.entry c.loop-at-test.true c.in-Some.ensures.node (c.in-Some.ensures.numbers left skip v.kept) c.in_err-at.ensures.value in
    c.from_residual.ensures ∙ rest_lost left skip v.keys x (goes (stand_of at)) at.leaves c.loop-at.invariant.rest is

pub loop-at-preserved : goal.loop-at-preserved
loop-at-preserved g c =
    let v = c.args.self.now in
    let left = gaps (sums_read v.left) in
    let skip = gaps (sums_read v.skip) in
    let x = bits_of c.args.view.now in
    let at = c.loop-at.at in
    let next = c.in_ok-at.at in
    let is = step_by_entry left skip x (stand_of at) (goes (stand_of next)) c.in-Some.entry c.loop-at-test.true c.in-Some.ensures.node (c.in-Some.ensures.numbers left skip v.kept) c.in_ok-at.ensures.value in
    let farther = c.in_ok-at.ensures.farther in
    let counted = c.kept.ensures.counted in
    let cost = c.kept.ensures.cost in
    let so_far = c.loop-at.invariant.counted in
    let spent = c.loop-at.invariant.cost in
    record {
      node = omega (arith, c.in_ok-at.ensures.node, c.loop-at.invariant.node);
      first = omega (arith, c.in_ok-at.ensures.first, c.loop-at.invariant.first);
      short = c.in_ok-at.ensures.short;
      counted = omega arith;
      cost = omega arith;
      rest = rest_steps left skip v.keys x (goes (stand_of at)) (goes (stand_of next)) at.leaves next.leaves c.loop-at.invariant.rest c.in_ok-at.ensures.fewer is;
    }

pub returns-clause-value : goal.returns-clause-value
returns-clause-value g c =
    let v = c.args.self.now in
    let left = gaps (sums_read v.left) in
    let skip = gaps (sums_read v.skip) in
    let x = bits_of c.args.view.now in
    let at = c.loop-at.at in
    let few = c.loop-at-test.false in
    elim (cases_eq at.leaves 1) [
      | inl one ↦ c.leaf.ensures.one one ∙ rest_leaf left skip v.keys x (stand_of at) c.loop-at.invariant.rest one
      | inr other ↦ c.leaf.ensures.other other ∙ rest_none left skip v.keys x (stand_of at) c.loop-at.invariant.rest (omega arith)
    ]
