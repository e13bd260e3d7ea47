use Rattle.sx_bits.specs.Views.{bits_of}
use Rattle.sx_pairs.proofs.TurnOrders.{follow_by, left_by, right_by}
use Rattle.sx_pairs.proofs.turn.turn_inside.Goals as goal

pub returns-in-Equal : goal.returns-in-Equal
returns-in-Equal c = follow_by (bits_of c.args.fragment.now) (bits_of c.args.own.now) c.order.result c.order.ensures c.in-Equal.is

pub returns-in-Less : goal.returns-in-Less
returns-in-Less c = left_by (bits_of c.args.fragment.now) (bits_of c.args.own.now) c.order.result c.order.ensures c.in-Less.is

pub returns-in-Greater : goal.returns-in-Greater
returns-in-Greater c = right_by (bits_of c.args.fragment.now) (bits_of c.args.own.now) c.order.result c.order.ensures c.in-Greater.is
