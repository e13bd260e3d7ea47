use Rattle.std.proofs.Common.{subst}
use Rattle.sx_peel.specs.declared.Peeled.TheVariants.{Order, Core}
use Rattle.sx_peel.specs.Peeling.{IsPeeled}
use Rattle.sx_static.proofs.Solutions.{peeled_cells, core_refutes}
use Rattle.sx_static.proofs.tries.by_peeling.Goals as goal

pub returns-in-Order : goal.returns-in-Order
returns-in-Order c =
    let edges = c.in_ok-edges.edges.items in
    let cells = c.in_ok-cells-in-Order in
    let peeled : IsPeeled edges (Order c.in-Order.order) = subst (IsPeeled edges) c.in-Order.is (subst (λ es. IsPeeled es c.in_ok-order.field-0) c.deref.ensures.value c.in_ok-order.ensures) in
    peeled_cells c.args.s c.args.t c.args.sigs.now c.args.values.now c.requires.values edges c.in_ok-edges.ensures.edges cells.cells.items c.in-Order.order.items
    c.in_ok-edges.ensures.within peeled cells.ensures.count (rw (← c.deref-in-Order.ensures.value) cells.ensures.met) cells.ensures.narrow

pub returns : goal.returns
returns c =
    let edges = c.in_ok-edges.edges.items in
    let peeled : IsPeeled edges (Core c.in-Core.places) = subst (IsPeeled edges) c.in-Core.is (subst (λ es. IsPeeled es c.in_ok-order.field-0) c.deref.ensures.value c.in_ok-order.ensures) in
    (core_refutes c.args.s c.args.t c.args.sigs.now c.args.values.now c.requires.values edges c.in_ok-edges.ensures.edges c.in-Core.places.items peeled, tt)
