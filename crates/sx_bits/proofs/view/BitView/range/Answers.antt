use Rattle.std.proofs.Common.{◌-◌, ◌≤◌, ℕ, length, arith}
use Rattle.sx_bits.specs.declared.view.BitView.{BitView}
use Rattle.sx_bits.specs.Views.{bits_of}
use Rattle.sx_bits.proofs.ViewBits.{length-bits_of, part_of_view}
use Rattle.sx_bits.proofs.view.BitView.range.Goals as goal

pub overflow_add-result : goal.overflow_add-result
overflow_add-result c =
    let v = c.args.self.now in
    let long = length-bits_of v in
    let b = v.within in
    let d = v.short in
    omega arith

pub overflow_add-result-2 : goal.overflow_add-result-2
overflow_add-result-2 c =
    let v = c.args.self.now in
    let long = length-bits_of v in
    let a = v.ordered in
    let b = v.within in
    let d = v.short in
    omega arith

pub invariant_of-result : goal.invariant_of-result
invariant_of-result c =
    let v = c.args.self.now in
    let long = length-bits_of v in
    let a = v.ordered in
    let b = v.within in
    record { short = v.short; ordered = omega arith; within = omega arith }

pub returns : goal.returns
unfolding bits_of
returns c =
    let v = c.args.self.now in
    part_of_view v c.args.from c.args.to c.requires.ordered (inside v c.args.to c.requires.within)
  where
    inside : (v : BitView) (to : ℕ) → to ≤ length (bits_of v) → to ≤ v.to - v.from
    inside v to le = let long = length-bits_of v in omega arith
