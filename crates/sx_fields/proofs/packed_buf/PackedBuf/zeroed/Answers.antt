use Rattle.std.proofs.Common.{◌≡◌, ◌∙◌, ◌^◌, ◌<◌, ◌*◌, replicate, length, ap, arith, lit<}
use Rattle.std.proofs.lemmas.List.{length-replicate}
use Rattle.std.proofs.lemmas.List.Elements.{All-replicate, All-same}
use Rattle.std.proofs.lemmas.Bool.{lt-ltb}
use Rattle.std.proofs.lemmas.Nat.{pow_pos}
use Rattle.sx_spec.specs.Fields.{words_number}
use Rattle.sx_spec_strings.specs.Numbers.{lowest_digits}
use Rattle.sx_fields.proofs.Places.{zeros_number, zero_digits}
use Rattle.sx_fields.proofs.packed_buf.PackedBuf.zeroed.Goals as goal

pub invariant_of-result : goal.invariant_of-result
invariant_of-result c =
    let words = c.in_ok-words.words.items in
    let n = c.div_ceil.result in
    let is : words ≡ replicate n 0 = c.in_ok-words.ensures.items_if_clones_equal (λ y e. e) in
    let number : words_number words ≡ 0 = ap words_number is ∙ zeros_number n in
    let size : length words ≡ n = ap length is ∙ length-replicate n 0 in
    let power = pow_pos (c.args.len * c.args.width) in (
      c.requires.narrow,
      c.requires.short,
      size ∙ c.div_ceil.ensures,
      All-same (λ w. w < 2 ^ 64) words (replicate n 0) is (All-replicate (λ w. w < 2 ^ 64) n 0 (lit< tt)),
      lt-ltb (words_number words) (2 ^ (c.args.len * c.args.width)) (omega arith),
    )

pub returns-clause-items : goal.returns-clause-items
returns-clause-items c =
    let n = c.div_ceil.result in
    let words = c.in_ok-words.words.items in
    let is : words ≡ replicate n 0 = c.in_ok-words.ensures.items_if_clones_equal (λ y e. e) in
    let number : words_number words ≡ 0 = ap words_number is ∙ zeros_number n in
    ap (lowest_digits (2 ^ c.args.width) c.args.len) number ∙ zero_digits (2 ^ c.args.width) c.args.len
