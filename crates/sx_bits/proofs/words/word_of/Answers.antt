use Rattle.std.proofs.Common.{◌≡◌, ◌+◌, ◌-◌, ◌*◌, ◌/◌, ◌%◌, ◌∙◌, ap, arith, inl, inr, get_or}
use Rattle.std.specs.Int.{bit_at}
use Rattle.std.proofs.lemmas.Bool.{cases_lt}
use Rattle.sx_bits.proofs.NumberBytes.{bit_of_eight}
use Rattle.sx_bits.proofs.words.word_of.Goals as goal

pub returns : goal.returns
returns c = λ j lt.
    let bytes = c.args.bytes.now in
    let high = c.number_of.result in
    let s = c.args.shift in
    let q = (s + j) / 8 in
    let b = 7 - (s + j) % 8 in
    elim (cases_lt (s + j) 64) [
      | inl inside ↦
          let e : 63 - j - s ≡ 8 * (7 - q) + b = omega arith in
          c.shifted_word.ensures.first (63 - j) (omega arith) (omega arith)
          ∙ ap (bit_at high) e
          ∙ bit_of_eight bytes high q b c.number_of.ensures (omega arith) (omega arith)
      | inr past ↦
          let e : 8 - s + (63 - j) ≡ b = omega arith in
          let f : 8 ≡ q = omega arith in
          c.shifted_word.ensures.last (63 - j) (omega arith)
          ∙ ap (bit_at (get_or bytes 8 0)) e
          ∙ ap (λ k. bit_at (get_or bytes k 0) b) f
    ]
