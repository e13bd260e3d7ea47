use Rattle.std.proofs.Common.{◌+◌, ◌-◌, ◌∙◌, arith}
use Rattle.sx_spec.specs.Reply.{gaps}
use Rattle.sx_bits.specs.Views.{bits_of}
use Rattle.sx_static.specs.Reading.{answers_by}
use Rattle.sx_hollow.specs.Views.{sums_read}
use Rattle.sx_hollow.specs.Walks.{stand_of}
use Rattle.sx_hollow.proofs.Asking.{ask_turn}
use Rattle.sx_hollow.proofs.dist.HollowDistView.ask.Goals as goal

pub returns-clause-value : goal.returns-clause-value
returns-clause-value g c =
    let v = c.args.self.now in
    let at = c.args.at.now in
    let e = c.entry-entry.result in
    let y = bits_of c.range.result in
    let k = at.pos + c.min.result - at.pos in
    let rest = c.len.result - at.pos in
    let len = c.len.ensures.value in
    let cut = c.min.ensures in
    let from = c.from.ensures in
    c.turned.ensures.value
    ∙ ask_turn (gaps (sums_read v.left)) (gaps (sums_read v.skip))
    (answers_by v.turns c.args.signing.seed c.args.signing.sig_bits) v.delimiters
    (bits_of c.args.view.now) (stand_of at) e.left e.skip c.turn-turn.result k rest y
    c.requires.more c.requires.within c.entry-entry.ensures.left (omega arith) (omega arith)
    (omega arith) c.entry-entry.ensures.skip (omega arith) c.range.ensures
    c.turn-turn.ensures.value
