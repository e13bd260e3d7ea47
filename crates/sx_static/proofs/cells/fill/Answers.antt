use Rattle.std.proofs.Common.{◌≡◌, ◌+◌, ◌-◌, ◌<◌, drop, get_or, length, arith}
use Rattle.sx_spec.specs.declared.Edge.{Edge}
use Rattle.sx_peel.specs.declared.Taken.{Taken}
use Rattle.sx_static.specs.Solving.{AreMet}
use Rattle.sx_static.proofs.Filling.{taken_below, one_more_met}
use Rattle.sx_static.proofs.cells.fill.Goals as goal

pub bounds-edges-number : goal.bounds-edges-number
bounds-edges-number c = taken_below c.args.edges.now c.args.order.now (c.loop-place.place - 1) _ (omega arith) c.requires.order

pub bounds-values-number : goal.bounds-values-number
bounds-values-number c =
    let none : Taken = record { edge = 0; slot = 0 } in
    let below = taken_below c.args.edges.now c.args.order.now (c.loop-place.place - 1) none (omega arith) c.requires.order in
    omega (arith, c.requires.values)

pub settle-requires : goal.settle-requires
settle-requires c =
    let none : Taken = record { edge = 0; slot = 0 } in
    let below = taken_below c.args.edges.now c.args.order.now (c.loop-place.place - 1) none (omega arith) c.requires.order in
    record { within = rw c.loop-place.auto.cells (c.requires.within _ _ below) }

pub loop-place-preserved : goal.loop-place-preserved
loop-place-preserved c =
    let edges = c.args.edges.now in
    let order = c.args.order.now in
    let values = c.args.values.now in
    let place = c.loop-place.place in
    let none : Taken = record { edge = 0; slot = 0 } in
    let edge : Edge = record { a = 0; b = 0; c = 0 } in
    let below = taken_below edges order (place - 1) none (omega arith) c.requires.order in
    let inside : (get_or order (place - 1) none).edge < length values = omega (arith, c.requires.values) in
    let back : (place - 1) + 1 ≡ place = omega arith in
    let later : AreMet edges values c.loop-place.cells (drop ((place - 1) + 1) order) = rw back c.loop-place.invariant.met in
    record {
      met = one_more_met edges values c.loop-place.cells c.settle.new.cells order (place - 1) none edge (omega arith) c.requires.order
          c.settle.ensures.others c.settle.ensures.met later;
      narrow = λ k fit initial. c.settle.ensures.narrow k (fit _ _ inside) (c.loop-place.invariant.narrow k fit initial);
    }
