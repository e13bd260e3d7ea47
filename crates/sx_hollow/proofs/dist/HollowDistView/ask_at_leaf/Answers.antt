use Rattle.std.proofs.Common.{ap, ◌∙◌}
use Rattle.sx_spec.specs.Reply.{gaps}
use Rattle.sx_spec_kinds.specs.Hollow.{end_of}
use Rattle.sx_bits.specs.Views.{bits_of}
use Rattle.sx_static.specs.Reading.{answers_by}
use Rattle.sx_hollow.specs.Views.{sums_read}
use Rattle.sx_hollow.specs.Walks.{stand_of}
use Rattle.sx_hollow.proofs.Asking.{ask_leaf}
use Rattle.sx_hollow.proofs.dist.HollowDistView.ask_at_leaf.Goals as goal

pub returns-clause-value : goal.returns-clause-value
returns-clause-value g c =
    let v = c.args.self.now in
    c.turned_at_leaf.ensures
    ∙ ap end_of (
    ask_leaf (gaps (sums_read v.left)) (gaps (sums_read v.skip))
    (answers_by v.turns c.args.signing.seed c.args.signing.sig_bits) v.delimiters
    (bits_of c.args.view.now) (stand_of c.args.at.now) c.turn-turn.result c.len.result
    (bits_of c.range.result) c.requires.one c.len.ensures.value c.range.ensures
    c.turn-turn.ensures.value
    )
