use Rattle.std.proofs.Common.{Some, arith}
use Rattle.sx_bits.specs.Views.{bits_of}
use Rattle.sx_spec_kinds.specs.declared.Kind.TheVariants.{Func}
use Rattle.sx_dump.proofs.Replies.{func_place_is, reads_are, reply_is, sign_is}
use Rattle.sx_dump.proofs.dump.Dump.reply_by_function.Goals as goal

pub returns-clause-value : goal.returns-clause-value
returns-clause-value g c =
    let d = c.args.self.now in
    let words = g.B.WordBank.words_of d.bank in
    let bits = bits_of c.args.key.now in
    let sig = c.signature_of-sig.result in
    let signs = sign_is words d.header d.places.items d.opened bits sig c.signature_of-sig.ensures in
    reply_is words Func c.requires.kind bits sig (Some c.answer-value.result) _ signs
    (func_place_is words c.args.values.now c.requires bits sig c.answer-value.result signs c.answer-value.ensures.value) c.where_kept.ensures.value

pub returns-clause-cost : goal.returns-clause-cost
returns-clause-cost g c =
    let words = g.B.WordBank.words_of c.args.self.now.bank in
    let cost = reads_are words Func c.requires.kind (bits_of c.args.key.now) in
    omega (arith, cost)
