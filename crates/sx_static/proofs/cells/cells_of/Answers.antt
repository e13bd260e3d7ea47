use Rattle.std.proofs.Common.{◌≡◌, ◌<◌, ◌^◌, length, drop, arith}
use Rattle.std.proofs.lemmas.List.{take_at}
use Rattle.std.proofs.lemmas.List.Elements.{All-replicate}
use Rattle.std.proofs.Math.Pow.{pow_pos}
use Rattle.sx_static.proofs.Filling.{each_met}
use Rattle.sx_static.proofs.cells.cells_of.Goals as goal

pub returns-clause-met : goal.returns-clause-met
returns-clause-met c =
    let cells = c.in_ok-cells.cells in
    let new = c.fill.new.cells in
    let size : length new ≡ cells.len = omega (arith, c.fill.auto.cells, c.deref_mut.ensures.len) in
    let same = take_at new (drop (length new) cells.items) cells.len size in
    rw same (each_met c.args.edges.now c.args.values.now new c.args.order.now c.requires.order c.fill.ensures.met)

pub returns-clause-narrow : goal.returns-clause-narrow
returns-clause-narrow c k below =
    let cells = c.in_ok-cells.cells in
    let new = c.fill.new.cells in
    let size : length new ≡ cells.len = omega (arith, c.fill.auto.cells, c.deref_mut.ensures.len) in
    let same = take_at new (drop (length new) cells.items) cells.len size in
    rw same (c.fill.ensures.narrow k below
    (rw (c.deref_mut.ensures.value, c.in_ok-cells.ensures) (All-replicate (λ x. x < 2 ^ k) c.args.count 0 (pow_pos k))))
