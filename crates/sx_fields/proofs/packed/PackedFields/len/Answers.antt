use Rattle.std.proofs.Common.{sym, drop}
use Rattle.sx_fields.proofs.Places.{length-fields}
use Rattle.sx_fields.proofs.packed.PackedFields.len.Goals as goal

pub returns : goal.returns
returns g c =
    let p = c.args.self.now in sym (length-fields p.width p.len (drop p.first (g.B.WordBank.words_of p.bank)))
