-- The bits of a view, one by one.
use Rattle.std.proofs.Common.{◌≡◌, ℕ, ◌+◌, ◌-◌, ◌/◌, ◌%◌, ◌<◌, ◌≤◌, false, List, length, get_or, take, drop, sym, ap, ◌∙◌, arith}
use Rattle.std.specs.Prelude.{◌==◌}
use Rattle.std.specs.Int.{bit_at}
use Rattle.std.proofs.lemmas.List.{length-take, length-drop, get_or-take, get_or-drop, drop-take, take-take, drop-drop}
use Rattle.sx_spec_strings.specs.Bits.{key_bits}
use Rattle.sx_spec.proofs.Signatures.{length-key_bits}
use Rattle.sx_bits.specs.declared.view.BitView.{BitView}
use Rattle.sx_bits.specs.Views.{bits_of}
use Rattle.sx_bits.proofs.LineBits.{bit_of_line}

pub length-bits_of : (v : BitView) → length (bits_of v) ≡ v.to - v.from
unfolding bits_of
length-bits_of v =
    let e = length-take (v.to - v.from) (drop v.from (key_bits v.line.now)) in
    let f = length-drop v.from (key_bits v.line.now) in
    let g = length-key_bits v.line.now in
    omega arith

-- a bit of a view is one of its line
pub bit_of_line_there : (v : BitView) (i : ℕ) → i < v.to - v.from → get_or (bits_of v) i false ≡ get_or (key_bits v.line.now) (v.from + i) false
unfolding bits_of
bit_of_line_there v i lt =
    get_or-take (v.to - v.from) (drop v.from (key_bits v.line.now)) i false lt
    ∙ get_or-drop v.from (key_bits v.line.now) i false

pub bit_of_view : (v : BitView) (i : ℕ) → i < v.to - v.from → get_or (bits_of v) i false ≡ (bit_at (get_or v.line.now ((v.from + i) / 8) 0) (7 - (v.from + i) % 8) == 1)
bit_of_view v i lt = bit_of_line_there v i lt ∙ bit_of_line v.line.now (v.from + i)

-- a part of a part of a list
part_of_part : {X : Type 0} (xs : List X) (f m a n : ℕ) → a + n ≤ m → take n (drop a (take m (drop f xs))) ≡ take n (drop (f + a) xs)
part_of_part xs f m a n within =
    let rest = drop f xs in
    let e : m ≡ a + (m - a) = omega arith in
    ap (λ k. take n (drop a (take k rest))) e
    ∙ ap (take n) (drop-take a (m - a) rest)
    ∙ take-take n (m - a) (drop a rest) (omega arith)
    ∙ ap (take n) (drop-drop a f xs)

-- a part of a view is a part of its line
pub part_of_view : (v : BitView) (from to : ℕ) → from ≤ to → to ≤ v.to - v.from
    → take (v.from + to - (v.from + from)) (drop (v.from + from) (key_bits v.line.now)) ≡ take (to - from) (drop from (bits_of v))
unfolding bits_of
part_of_view v from to ordered within =
    let e : v.from + to - (v.from + from) ≡ to - from = omega arith in
    ap (λ n. take n (drop (v.from + from) (key_bits v.line.now))) e
    ∙ sym (part_of_part (key_bits v.line.now) v.from (v.to - v.from) from (to - from) (omega arith))
