use Rattle.std.proofs.Common.{◌≡◌, ◌-◌, length, take, drop, ◌∙◌, ap, arith}
use Rattle.std.proofs.lemmas.List.{take_rest}
use Rattle.byteorder.specs.Endian.{big_number}
use Rattle.sx_sig.proofs.DigestWords.{words_are}
use Rattle.sx_sig.proofs.signing.first_bits.Goals as goal

pub returns : goal.returns
returns c =
    let digest = c.args.digest.now in
    let second : c.read_u64-2.result ≡ big_number 8 (take (length digest - 8) (drop 8 digest)) = c.read_u64-2.ensures in
    let third : c.read_u64-3.result ≡ big_number 8 (take (length digest - 16) (drop 16 digest)) = c.read_u64-3.ensures in
    words_are digest c.args.kept c.read_u64.result c.read_u64-2.result c.read_u64-3.result c.min.result c.min-2.result c.saturating_sub-2.result
    c.top_kept.result c.top_kept-2.result c.top_kept-3.result (λ i. omega (arith, c.type_inv.digest i)) c.requires.whole
    c.read_u64.ensures (second ∙ ap (big_number 8) (take_rest digest 8)) (third ∙ ap (big_number 8) (take_rest digest 16))
    (omega arith) (omega arith) (omega arith) (omega arith) (omega arith) (omega arith)
    c.top_kept.ensures c.top_kept-2.ensures c.top_kept-3.ensures
