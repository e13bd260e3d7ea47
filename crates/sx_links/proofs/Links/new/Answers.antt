use Rattle.std.proofs.Common.{ap, arith}
use Rattle.sx_links.proofs.LinkedReads.{empty_flat, no_lists}
use Rattle.sx_links.proofs.Links.new.Goals as goal

pub invariant_of-result : goal.invariant_of-result
invariant_of-result c =
    rw (c.in_ok-zeros.ensures, c.in_ok-zeros-2.ensures)
    (empty_flat c.args.items c.args.lists c.args.hooks c.in_ok-no_neighbours.field-0.items c.in_ok-no_neighbours.ensures c.requires (omega arith))

pub returns : goal.returns
returns c =
    rw (c.in_ok-zeros.ensures, c.in_ok-zeros-2.ensures)
    (ap (λ ls. record { items = c.args.items; hooks = c.args.hooks; lists = ls })
    (no_lists c.args.items c.args.lists c.args.hooks c.in_ok-no_neighbours.field-0.items c.in_ok-no_neighbours.ensures))
