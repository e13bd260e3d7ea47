use Rattle.std.proofs.Common.{◌≡◌, ◌<◌, ◌+◌, ◌-◌, ◌*◌, ◌%◌, ◌^◌, ◌∙◌, ◌++◌, List, ℕ, length, map, take, get_or, set, replicate, ap, sym, arith}
use Rattle.std.specs.Prelude.{bit_and}
use Rattle.std.proofs.lemmas.List.{length-map, length-take-le}
use Rattle.std.proofs.lemmas.Nat.{and_mask, one_shl}
use Rattle.sx_ef.proofs.Encoding.{low_set, map_more}
use Rattle.sx_ef.proofs.encode.pack_low.Goals as goal

next_low : (list low new : List ℕ) (width i n y : ℕ) → i < length list → low ≡ map (λ x. x % 2 ^ width) (take i list) ++ replicate (length list - i) 0 → new ≡ set low i y → y ≡ get_or list i 0 % 2 ^ width → new ≡ map (λ x. x % 2 ^ width) (take (i + 1) list) ++ replicate (length list - (i + 1)) 0
next_low list low new width i n y within items is low_bits =
    let f = λ (x : ℕ). x % 2 ^ width in
    let size : length (map f (take i list)) ≡ i = length-map (take i list) f ∙ length-take-le i list (omega arith) in
    is
    ∙ (λ j. set (items j) i (low_bits j))
    ∙ low_set (map f (take i list)) (f (get_or list i 0)) (length list) i size within
    ∙ ap (λ xs. xs ++ replicate (length list - (i + 1)) 0) (sym (map_more f list i within))

pub loop-i-preserved : goal.loop-i-preserved
loop-i-preserved c =
    let list = c.args.list.now in
    let i = c.loop-i.i in
    let x = get_or list i 0 in
    let power = one_shl c.args.width 64 (omega (arith, c.requires.narrow)) in
    let mask : bit_and x (1 * 2 ^ c.args.width % 2 ^ 64 - 1) ≡ x % 2 ^ c.args.width = ap (λ m. bit_and x (m - 1)) power ∙ and_mask x c.args.width in
    let items : c.set.new.self.items ≡ map (λ n. n % 2 ^ c.args.width) (take (i + 1) list) ++ replicate (length list - (i + 1)) 0 =
    next_low list c.loop-i.low.items c.set.new.self.items c.args.width i 0 (bit_and x (1 * 2 ^ c.args.width % 2 ^ 64 - 1)) c.loop-i-test.true c.loop-i.invariant.items c.set.ensures.items mask in
    record { width = c.set.ensures.width ∙ c.loop-i.invariant.width; items = items }
