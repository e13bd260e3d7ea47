use Rattle.std.proofs.Common.{◌≡◌, ◌<◌, ◌+◌, ◌/◌, ◌^◌, ◌∙◌, length, get_or, replicate, ap, refl, sym, arith, lit<}
use Rattle.std.proofs.lemmas.List.{length-replicate, take_all, get_or_read}
use Rattle.std.proofs.lemmas.List.Elements.{All-replicate, All-same, recursion_from_All}
use Rattle.std.proofs.lemmas.Nat.{pow_pos}
use Rattle.sx_spec.specs.Fields.{words_number}
use Rattle.sx_spec.proofs.Digits.{digits_of_number}
use Rattle.sx_spec_strings.specs.Numbers.{lowest_digits}
use Rattle.sx_fields.proofs.Places.{zeros_number}
use Rattle.sx_ef.specs.Parts.{places_number}
use Rattle.sx_ef.proofs.Encoding.{places_step}
use Rattle.sx_ef.proofs.encode.set_places.Goals as goal

pub loop-i-init : goal.loop-i-init
loop-i-init c =
    let words = c.in_ok-upper.upper.items in
    let n = c.div_ceil.result in
    let is : words ≡ replicate n 0 = c.in_ok-upper.ensures.items_if_clones_equal (λ y e. e) in
    let number : words_number words ≡ 0 = ap words_number is ∙ zeros_number n in
    let p = get_or c.args.list.now 0 0 / 2 ^ c.args.width + 0 in
    let power = pow_pos p in
    record {
      size = ap length is ∙ length-replicate n 0 ∙ c.div_ceil.ensures;
      small = All-same (λ w. w < 2 ^ 64) words (replicate n 0) is (All-replicate (λ w. w < 2 ^ 64) n 0 (lit< tt));
      number = number;
      below = λ some. omega arith;
    }

pub loop-i-preserved : goal.loop-i-preserved
loop-i-preserved c =
    let list = c.args.list.now in
    let words = c.loop-i.upper.items in
    let i = c.loop-i.i in
    let p = get_or list i 0 / 2 ^ c.args.width + i in
    let h = c.loop-i.invariant in
    let inside : p < c.args.bits = c.requires.within i c.loop-i-test.true in
    let size = h.size in
    let read : c.index_mut.result.now ≡ get_or words (p / 64) 0 = get_or_read words (p / 64) c.index_mut.result.now (omega arith) c.index_mut.ensures.value 0 in
    let step = places_step list words c.args.width c.args.bits i p c.index_mut.result.now refl read h.small size c.loop-i-test.true inside h.number (h.below c.loop-i-test.true) (c.requires.rising i) in
    record { size = step.size; small = step.small; number = step.number; below = step.below }

pub returns : goal.returns
returns c =
    let list = c.args.list.now in
    let words = c.loop-i.upper.items in
    let h = c.loop-i.invariant in
    let all : words_number words ≡ places_number c.args.width list = h.number ∙ ap (places_number c.args.width) (take_all c.loop-i.i list c.loop-i-test.false) in
    sym (digits_of_number (2 ^ 64) (lit< tt) words (recursion_from_All (λ w. w < 2 ^ 64) words h.small))
    ∙ (λ j. lowest_digits (2 ^ 64) (h.size j) (all j))
