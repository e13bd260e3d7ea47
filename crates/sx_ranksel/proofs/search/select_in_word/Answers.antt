use Rattle.std.proofs.Common.{◌≡◌, ◌+◌, ◌-◌, ◌*◌, ◌/◌, ◌%◌, ◌<◌, ◌≤◌, ◌^◌, bit_and, ap, subst, ◌∙◌, arith}
use Rattle.std.specs.Int.Count.{ones}
use Rattle.std.proofs.lemmas.Nat.{and_mask, one_shl}
use Rattle.sx_ranksel.proofs.WordSelect.{in_byte, found}
use Rattle.sx_ranksel.proofs.search.select_in_word.Goals as goal

pub overflow_sub-left-2 : goal.overflow_sub-left-2
overflow_sub-left-2 c =
    let w = c.args.word in
    let b = c.pieces_before-byte in
    let s = 8 * b.result in
    let mask : ones (bit_and w (1 * 2 ^ s % 2 ^ 64 - 1)) ≡ ones (w % 2 ^ s) =
    ap ones (ap (λ m. bit_and w (m - 1)) (one_shl s 64 (omega (arith, b.ensures.few))) ∙ and_mask w s) in
    omega (arith, b.ensures.low)

pub pieces_before-requires-clause-inside : goal.pieces_before-requires-clause-inside
pieces_before-requires-clause-inside c =
    let w = c.args.word in
    let k = c.args.k in
    let b = c.pieces_before-byte in
    let s = 8 * b.result in
    let mask : ones (bit_and w (1 * 2 ^ s % 2 ^ 64 - 1)) ≡ ones (w % 2 ^ s) =
    ap ones (ap (λ m. bit_and w (m - 1)) (one_shl s 64 (omega (arith, b.ensures.few))) ∙ and_mask w s) in
    let e : 8 * (b.result + 1) ≡ s + 8 = omega arith in
    let high : k < ones (w % 2 ^ (s + 8)) = subst (λ n. k < ones (w % 2 ^ n)) e b.ensures.high in
    let inside : k - ones (w % 2 ^ s) < ones (w / 2 ^ s % 2 ^ 8) = in_byte w k s b.ensures.low high in
    omega arith

pub returns-clause-one : goal.returns-clause-one
returns-clause-one c =
    let w = c.args.word in
    let k = c.args.k in
    let b = c.pieces_before-byte in
    let p = c.pieces_before in
    let s = 8 * b.result in
    let left = k - ones (bit_and w (1 * 2 ^ s % 2 ^ 64 - 1)) in
    let mask : ones (bit_and w (1 * 2 ^ s % 2 ^ 64 - 1)) ≡ ones (w % 2 ^ s) =
    ap ones (ap (λ m. bit_and w (m - 1)) (one_shl s 64 (omega (arith, b.ensures.few))) ∙ and_mask w s) in
    let is : left ≡ k - ones (w % 2 ^ s) = ap (λ m. k - m) mask in
    let one : 1 * p.result ≡ p.result = omega arith in
    let two : 1 * (p.result + 1) ≡ p.result + 1 = omega arith in
    let low : ones (w / 2 ^ s % 2 ^ p.result) ≤ left = subst (λ n. ones (w / 2 ^ s % 2 ^ n) ≤ left) one p.ensures.low in
    let high : left < ones (w / 2 ^ s % 2 ^ (p.result + 1)) = subst (λ n. left < ones (w / 2 ^ s % 2 ^ n)) two p.ensures.high in
    (found w k s b.ensures.low p.result left is low high).0

pub returns-clause-below : goal.returns-clause-below
returns-clause-below c =
    let w = c.args.word in
    let k = c.args.k in
    let b = c.pieces_before-byte in
    let p = c.pieces_before in
    let s = 8 * b.result in
    let left = k - ones (bit_and w (1 * 2 ^ s % 2 ^ 64 - 1)) in
    let mask : ones (bit_and w (1 * 2 ^ s % 2 ^ 64 - 1)) ≡ ones (w % 2 ^ s) =
    ap ones (ap (λ m. bit_and w (m - 1)) (one_shl s 64 (omega (arith, b.ensures.few))) ∙ and_mask w s) in
    let is : left ≡ k - ones (w % 2 ^ s) = ap (λ m. k - m) mask in
    let one : 1 * p.result ≡ p.result = omega arith in
    let two : 1 * (p.result + 1) ≡ p.result + 1 = omega arith in
    let low : ones (w / 2 ^ s % 2 ^ p.result) ≤ left = subst (λ n. ones (w / 2 ^ s % 2 ^ n) ≤ left) one p.ensures.low in
    let high : left < ones (w / 2 ^ s % 2 ^ (p.result + 1)) = subst (λ n. left < ones (w / 2 ^ s % 2 ^ n)) two p.ensures.high in
    (found w k s b.ensures.low p.result left is low high).1
