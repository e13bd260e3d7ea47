use Rattle.std.proofs.Common.{arith}
use Rattle.sx_sections.specs.Headers.{header_as}
use Rattle.sx_sections.proofs.Walking.{turned}
use Rattle.sx_sections.proofs.walk.walk.Goals as goal

pub loop-slot-preserved : goal.loop-slot-preserved
loop-slot-preserved c =
    let room = c.loop-slot.invariant.room in
    record {
      room = omega arith;
      found =
          turned (header_as c.args.header.now) c.args.words.now c.loop-slot.places.items _ c.as_slice-slot-items.result.now c.loop-slot.slot-index
          c.loop-slot.at c.loop-slot.width c.loop-slot.count c.after-at.result c.width-width.result c.count-count.result _ c.after-rule.result c.in_ok-place.place
          c.loop-slot-test.true c.loop-slot.invariant.found c.after-rule.ensures.rule c.in_ok-place.ensures c.push.ensures.items
          c.after-at.ensures c.width-width.ensures c.count-count.ensures;
    }
