use Rattle.std.proofs.Common.{◌/◌, ◌^◌, arith}
use Rattle.sx_fields.proofs.WordFields.{masked}
use Rattle.sx_fields.proofs.place.inside.Goals as goal

pub returns : goal.returns
returns c = masked (c.args.word / 2 ^ c.args.shift) c.args.width (omega arith)
