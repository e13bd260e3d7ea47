use Rattle.std.proofs.Common.{◌∙◌, sym, ap, length}
use Rattle.sx_fields.proofs.Places.{length-fields}
use Rattle.sx_fields.proofs.packed_buf.PackedBufFields.len.Goals as goal

pub returns : goal.returns
returns c =
    let p = c.self.inside in sym (length-fields p.width p.len p.words.items) ∙ ap (λ n. length n.items) c.self.view_is
