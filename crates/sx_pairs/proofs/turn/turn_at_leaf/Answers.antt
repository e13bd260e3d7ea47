use Rattle.std.proofs.Common.{sym, ◌∙◌}
use Rattle.sx_bits.specs.Views.{bits_of}
use Rattle.sx_pairs.proofs.TurnOrders.{above_leaf, at_leaf}
use Rattle.sx_pairs.proofs.turn.turn_at_leaf.Goals as goal

pub returns-then-is_lt : goal.returns-then-is_lt
returns-then-is_lt c = above_leaf (bits_of c.args.own.now) (bits_of c.args.fragment.now) c.order.result c.order.ensures (sym c.is_lt.ensures ∙ c.if-is_lt.true)

pub returns-else-is_lt : goal.returns-else-is_lt
returns-else-is_lt c = at_leaf (bits_of c.args.own.now) (bits_of c.args.fragment.now) c.order.result c.order.ensures (sym c.is_lt.ensures ∙ c.if-is_lt.false)
