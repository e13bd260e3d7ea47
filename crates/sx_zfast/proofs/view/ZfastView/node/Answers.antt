use Rattle.std.proofs.Common.{sym, ◌∙◌, arith}
use Rattle.sx_zfast.specs.Maps.{numbers_read}
use Rattle.sx_zfast.proofs.BlockCases.{node_in}
use Rattle.sx_zfast.proofs.view.ZfastView.node.Goals as goal

pub returns-clause-value : goal.returns-clause-value
returns-clause-value g c =
    let v = c.args.self.now in
    let inside = c.requires.inside in
    let all = v.all_extents in
    (λ t. record { extent = c.requires.extent t; first = c.read_narrow.ensures.value t; middle = c.read_narrow-2.ensures.value t; after = c.read_narrow-3.ensures.value t })
    ∙ node_in (numbers_read v.extents) (numbers_read v.firsts) (numbers_read v.middles) (numbers_read v.afters) c.args.at.now.node
    (v.all_firsts ∙ sym v.all_extents) (v.all_middles ∙ sym v.all_extents) (v.all_afters ∙ sym v.all_extents) (omega arith)
