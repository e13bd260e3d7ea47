use Rattle.std.proofs.Common.{drop}
use Rattle.sx_fields.proofs.Places.{length-fields}
use Rattle.sx_fields.proofs.packed.Packed.new.Goals as goal

pub returns-clause-len : goal.returns-clause-len
returns-clause-len g c =
    length-fields c.args.width c.args.len (drop c.args.first (g.B.WordBank.words_of c.args.bank))
