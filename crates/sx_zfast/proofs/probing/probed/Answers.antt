use Rattle.std.proofs.Common.{ap, ◌∙◌, arith, take, drop}
use Rattle.sx_spec.specs.Signature.{signature}
use Rattle.sx_bits.specs.Views.{bits_of}
use Rattle.sx_fields.proofs.Places.{length-fields}
use Rattle.sx_zfast.specs.Maps.{numbers_read}
use Rattle.sx_zfast.proofs.MapNodes.{node_answered, none_answered, place_inside, untagged}
use Rattle.sx_zfast.proofs.probing.probed.Goals as goal

pub returns-in_err-place-clause-value : goal.returns-in_err-place-clause-value
returns-in_err-place-clause-value g c =
    c.from_residual.ensures
    ∙ none_answered c.args.map.now c.args.signing.seed c.args.signing.sig_bits (take c.args.len (bits_of c.args.view.now)) c.sign-sig.result
    (c.sign-sig.ensures ∙ ap (signature c.args.signing.seed c.args.signing.sig_bits) (untagged _ ∙ c.prefix.ensures)) c.in_err-place.ensures.value

pub overflow_add-result : goal.overflow_add-result
overflow_add-result g c =
    let kept = c.args.map.now.kept in
    let inside = place_inside (numbers_read kept) kept.width c.sign-sig.result _ c.in_ok-place.place c.in_ok-place.ensures.value in
    let size = length-fields kept.width kept.len (drop kept.first (g.B.WordBank.words_of kept.bank)) in
    let few = kept.short in
    omega arith

pub returns-clause-value : goal.returns-clause-value
returns-clause-value g c =
    node_answered c.args.map.now c.args.signing.seed c.args.signing.sig_bits (take c.args.len (bits_of c.args.view.now)) c.sign-sig.result c.in_ok-place.place
    (c.sign-sig.ensures ∙ ap (signature c.args.signing.seed c.args.signing.sig_bits) (untagged _ ∙ c.prefix.ensures)) c.in_ok-place.ensures.value
