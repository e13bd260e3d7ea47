use Rattle.std.proofs.Common.{◌∙◌, ◌^◌, ◌<◌, sym, ap}
use Rattle.std.proofs.lemmas.List.Elements.{recursion_from_All}
use Rattle.sx_spec.specs.Fields.{packed}
use Rattle.sx_spec.proofs.Reading.{packed_again}
use Rattle.sx_fields.proofs.packed_buf.PackedBuf.into_words.Goals as goal

pub returns : goal.returns
returns c =
    let p = c.self.inside in
    let again = packed_again p.width p.len p.words.items c.self.invariant.2 (recursion_from_All (λ w. w < 2 ^ 64) p.words.items c.self.invariant.3) c.self.invariant.4 in
    sym again ∙ ap (λ n. packed n.width n.items) c.self.view_is
