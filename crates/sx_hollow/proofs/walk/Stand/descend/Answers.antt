use Rattle.std.proofs.Common.{◌+◌, sym, ap, ◌∙◌, arith, inl, inr}
use Rattle.sx_spec_kinds.specs.Hollow.{child}
use Rattle.sx_bits.specs.Views.{bits_of}
use Rattle.sx_hollow.specs.Walks.{stand_of}
use Rattle.sx_hollow.proofs.Descents.{lost_at, goes_at}
use Rattle.sx_hollow.proofs.walk.Stand.descend.Goals.{then-left-eq0-via-then-left-eq0, then-left-eq0-via-else-left-eq0+then-self-left, then-left-eq0-via-else-left-eq0+else-self-left+then-from-skip}
use Rattle.sx_hollow.proofs.walk.Stand.descend.Goals as goal

pub returns-then-left-eq0-clause-value : goal.returns-then-left-eq0-clause-value
returns-then-left-eq0-clause-value c =
    let x = bits_of c.args.view.now in
    let s = stand_of c.args.self.now in
    elim c.then-left-eq0.branch [
      | then-left-eq0-via-then-left-eq0 w ↦ lost_at c.args.left c.args.skip x s (inl w.if-left-eq0.true)
      | then-left-eq0-via-else-left-eq0+then-self-left w ↦ lost_at c.args.left c.args.skip x s (inr (inl w.if-self-left.true))
      | then-left-eq0-via-else-left-eq0+else-self-left+then-from-skip w ↦
          let len = c.len.ensures.value in
          let rest = w.from.ensures in
          let less = w.if-from-skip.true in
          let short = c.requires.short in
          lost_at c.args.left c.args.skip x s (inr (inr (omega arith)))
    ]

pub returns-clause-value : goal.returns-clause-value
returns-clause-value c =
    let x = bits_of c.args.view.now in
    let s = stand_of c.args.self.now in
    let len = c.len.ensures.value in
    let rest = c.from.ensures in
    let less = c.if-from-skip.false in
    let short = c.requires.short in
    let p = c.args.self.now.pos + c.args.skip in
    c.child.ensures
    ∙ ap (child s c.args.left p) c.bit.ensures
    ∙ sym (goes_at c.args.left c.args.skip x s c.if-left-eq0.false (omega arith) (omega arith))
