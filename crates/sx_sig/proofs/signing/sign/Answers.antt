use Rattle.std.proofs.Common.{◌*◌, ◌++◌, length, take, ap, subst, ◌∙◌, arith}
use Rattle.sha2.specs.Hashers.{Holds256}
use Rattle.sx_spec_strings.specs.Bits.{packed_bytes, bytes_bits}
use Rattle.sx_spec.specs.Signature.{signature, signature_from, kept_bits}
use Rattle.sha2.specs.Sha256.{sha256}
use Rattle.sx_bits.specs.Views.{bits_of}
use Rattle.sx_sig.specs.Heading.{heading}
use Rattle.sx_sig.proofs.Messages.{piece_more, all_pieces, message_is}
use Rattle.sx_sig.proofs.signing.sign.Goals as goal

pub pieces-init : goal.pieces-init
pieces-init c =
    let bits = bits_of c.args.view.now in
    let front = heading c.args.seed (length bits) c.args.tag in
    c.begin-hasher.ensures

pub pieces-preserved : goal.pieces-preserved
pieces-preserved c =
    let bits = bits_of c.args.view.now in
    let front = heading c.args.seed (length bits) c.args.tag in
    let i = c.pieces.i in
    let held = front ++ packed_bytes (take (512 * i) bits) in
    let used = c.fill-used.result in
    let step : Holds256 c.update.new.self (held ++ take used c.fill-used.new.buf) = c.update.ensures held c.pieces.invariant in
    let long = c.len-length.ensures.value in
    subst (Holds256 c.update.new.self)
    (ap (λ piece. held ++ piece) c.fill-used.ensures.packed ∙ piece_more front bits i (omega arith))
    step

pub returns : goal.returns
unfolding signature
returns c =
    let bits = bits_of c.args.view.now in
    let front = heading c.args.seed (length bits) c.args.tag in
    let i = c.pieces.i in
    let long = c.len-length.ensures.value in
    let done = c.finalize.ensures (front ++ packed_bytes (take (512 * i) bits)) c.pieces.invariant in
    let whole = ap (λ xs. front ++ packed_bytes xs) (all_pieces bits i (omega arith)) ∙ message_is c.args.seed c.args.tag bits in
    c.first_bits.ensures ∙ ap (λ digest. signature_from (kept_bits c.args.sig_bits (bytes_bits (take 24 digest)))) (done ∙ ap sha256 whole)
