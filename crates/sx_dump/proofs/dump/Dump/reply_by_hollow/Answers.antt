use Rattle.std.proofs.Common.{◌∙◌, ℕ, Option, Some, refl}
use Rattle.sx_bits.specs.Views.{bits_of}
use Rattle.sx_spec_kinds.specs.declared.Kind.TheVariants.{Hollow}
use Rattle.sx_spec.specs.Reply.{sign}
use Rattle.sx_dump.specs.Opening.{dump_in}
use Rattle.sx_dump.proofs.Replies.{hollow_place_is, none_kept, reply_is, sign_is, signed_kept, unsigned_kept}
use Rattle.sx_dump.proofs.dump.Dump.reply_by_hollow.Goals as goal

pub returns-in_err-place-clause-value : goal.returns-in_err-place-clause-value
returns-in_err-place-clause-value g c =
    let words = g.B.WordBank.words_of c.args.self.now.bank in
    let bits = bits_of c.args.key.now in
    let sig = sign (dump_in words).header bits in
    reply_is words Hollow c.requires.kind bits sig c.answer.result _ refl
    (c.answer.ensures.value ∙ hollow_place_is words c.args.hollow.now c.requires bits)
    (c.from_residual.ensures ∙ none_kept (dump_in words) sig c.answer.result c.in_err-place.was)

pub returns-in-None-clause-value : goal.returns-in-None-clause-value
returns-in-None-clause-value g c =
    let d = c.args.self.now in
    let words = g.B.WordBank.words_of d.bank in
    let bits = bits_of c.args.key.now in
    let sig = sign (dump_in words).header bits in
    let place : Option ℕ = Some c.in_ok-place.place in
    reply_is words Hollow c.requires.kind bits sig place place refl
    (c.in_ok-place.ensures.value ∙ hollow_place_is words c.args.hollow.now c.requires bits)
    (unsigned_kept (dump_in words) sig place (d.numbers.none c.in-None.is))

pub returns-in-Some-clause-value : goal.returns-in-Some-clause-value
returns-in-Some-clause-value g c =
    let d = c.args.self.now in
    let words = g.B.WordBank.words_of d.bank in
    let bits = bits_of c.args.key.now in
    let sig = c.signature_of.result in
    let place : Option ℕ = Some c.in_ok-place.place in
    reply_is words Hollow c.requires.kind bits sig place c.where_kept.result (sign_is words d.header d.places.items d.opened bits sig c.signature_of.ensures)
    (c.in_ok-place.ensures.value ∙ hollow_place_is words c.args.hollow.now c.requires bits)
    (signed_kept words c.in-Some.kept (d.numbers.some c.in-Some.kept c.in-Some.is) sig place place c.where_kept.result refl c.where_kept.ensures.value)
