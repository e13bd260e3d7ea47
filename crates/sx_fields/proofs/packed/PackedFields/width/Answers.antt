use Rattle.std.proofs.Common.{drop}
use Rattle.sx_fields.proofs.Places.{fields_fit}
use Rattle.sx_fields.proofs.packed.PackedFields.width.Goals as goal

pub returns-clause-fit : goal.returns-clause-fit
returns-clause-fit g c =
    let p = c.args.self.now in fields_fit p.width p.len (drop p.first (g.B.WordBank.words_of p.bank))
