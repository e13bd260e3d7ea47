use Rattle.std.proofs.Common.{◌<◌, ℕ, ◌∙◌, get_or, ap, arith}
use Rattle.std.proofs.lemmas.Nat.{be_bytes_8}
use Rattle.sx_bits.proofs.NumberBytes.{bytes_of_front}
use Rattle.sx_bits.proofs.words.number_of.Goals as goal

pub returns : goal.returns
returns c =
    let bytes = c.args.bytes.now in
    let eight = c.copy_from_slice.new.self in
    let same = c.copy_from_slice.ensures.after in
    let small : (i : ℕ) → get_or eight i 0 < 256 = λ i.
    (let e = ap (λ xs. get_or xs i 0) same in let f = bytes_of_front bytes 8 i (λ k. omega (arith, c.type_inv.bytes k)) in omega arith) in
    be_bytes_8 eight c.from_be_bytes.result c.copy_from_slice.ensures.len small c.from_be_bytes.ensures ∙ same
