use Rattle.std.proofs.Common.{arith, inr}
use Rattle.sx_bits.specs.Views.{bits_of}
use Rattle.sx_hollow.specs.Walks.{stand_of}
use Rattle.sx_hollow.proofs.Asking.{goes_some}
use Rattle.sx_hollow.proofs.Descents.{lost_at}
use Rattle.sx_hollow.proofs.turning.follow.Goals as goal

pub returns-then-len-at-clause-value : goal.returns-then-len-at-clause-value
returns-then-len-at-clause-value c =
    let e = c.args.entry.now in
    let len = c.len.ensures.value in
    let short = c.if-len-at.true in
    lost_at e.left e.skip (bits_of c.args.view.now) (stand_of c.args.at.now) (inr (inr (omega arith)))

pub returns-clause-later : goal.returns-clause-later
returns-clause-later c =
    let e = c.args.entry.now in
    record {
      some = goes_some e.left e.skip (bits_of c.args.view.now) (stand_of c.args.at.now) (stand_of c.in-Some.next) c.requires.some c.requires.fewer c.in-Some.ensures.value;
      fewer = c.in-Some.ensures.fewer;
      node = c.in-Some.ensures.node;
      first = c.in-Some.ensures.first;
      farther = c.in-Some.ensures.farther;
      within = c.in-Some.ensures.short;
    }
