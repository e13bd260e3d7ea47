use Rattle.std.proofs.Common.{◌<◌, ◌^◌, All, subst}
use Rattle.sx_fields.specs.Numbers.{Numbers}
use Rattle.sx_fields.proofs.Places.{fields_fit}
use Rattle.sx_fields.proofs.packed_buf.PackedBufFields.width.Goals as goal

pub returns-clause-fit : goal.returns-clause-fit
returns-clause-fit c =
    let p = c.self.inside in
    subst (λ (n : Numbers). All (λ x. x < 2 ^ n.width) n.items) c.self.view_is (fields_fit p.width p.len p.words.items)
