use Rattle.std.proofs.Common.{ℕ, Bool, true, false, ◌≤◌, ap, ◌∙◌, arith}
use Rattle.std.specs.Prelude.{◌==◌, if◌then◌else◌}
use Rattle.std.specs.List.{slice_index}
use Rattle.sx_spec.specs.Reply.{gaps}
use Rattle.sx_hollow.specs.Dist.{reserve}
use Rattle.sx_hollow.specs.Views.{sums_read}
use Rattle.sx_hollow.proofs.dist.HollowDistView.entry.Goals as goal

pub returns-in-Some-clause-left : goal.returns-in-Some-clause-left
returns-in-Some-clause-left g c =
    let v = c.args.self.now in
    let left = gaps (sums_read v.left) in
    (c.in-Some.ensures.numbers left (gaps (sums_read v.skip)) v.kept).left_is ∙ ap (slice_index left) c.in-Some.ensures.node

pub returns-in-Some-clause-skip : goal.returns-in-Some-clause-skip
returns-in-Some-clause-skip g c some =
    let v = c.args.self.now in
    let skip = gaps (sums_read v.skip) in
    (c.in-Some.ensures.numbers (gaps (sums_read v.left)) skip v.kept).skip_is ∙ ap (slice_index skip) c.in-Some.ensures.node

-- one read at most is kept in reserve
few : (place : ℕ) → reserve place ≤ 1
few place = either (place == 4294967295)
  where
    either : (t : Bool) → (if t then 0 else 1) ≤ 1
    either true = omega arith
    either false = omega arith

pub returns-in-Some-clause-children : goal.returns-in-Some-clause-children
returns-in-Some-clause-children g c =
    let cost = c.in-Some.ensures.cost in
    let one = few c.in-Some.entry.children in
    omega arith
