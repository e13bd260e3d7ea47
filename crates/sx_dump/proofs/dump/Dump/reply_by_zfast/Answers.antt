use Rattle.std.proofs.Common.{arith, ◌∙◌}
use Rattle.sx_bits.specs.Views.{bits_of}
use Rattle.sx_spec_kinds.specs.declared.Kind.TheVariants.{Zfast}
use Rattle.sx_dump.proofs.Replies.{reply_is, sign_is, zfast_place_is, zfast_reads_are}
use Rattle.sx_dump.proofs.dump.Dump.reply_by_zfast.Goals as goal

pub returns-clause-value : goal.returns-clause-value
returns-clause-value g c =
    let d = c.args.self.now in
    let words = g.B.WordBank.words_of d.bank in
    let bits = bits_of c.args.key.now in
    let sig = c.signature_of-sig.result in
    reply_is words Zfast c.requires.kind bits sig _ _ (sign_is words d.header d.places.items d.opened bits sig c.signature_of-sig.ensures)
    (c.answer-place.ensures.value ∙ zfast_place_is words d.header d.places.items d.opened c.args.dist.now c.requires bits) c.where_kept.ensures.value

pub returns-clause-cost : goal.returns-clause-cost
returns-clause-cost g c =
    let words = g.B.WordBank.words_of c.args.self.now.bank in
    let cost = zfast_reads_are words c.args.dist.now c.requires (bits_of c.args.key.now) in
    omega (arith, cost)
