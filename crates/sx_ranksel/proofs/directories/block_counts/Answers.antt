use Rattle.std.proofs.Common.{◌≡◌, ◌*◌, ◌+◌, ◌∙◌, ◌++◌, ◌∷◌, [], map, ap, sym, arith, zero-add}
use Rattle.std.specs.List.{range_with_len}
use Rattle.std.proofs.lemmas.List.FromFn.{map-range_with_len_more}
use Rattle.sx_ranksel.specs.Directory.{number_at, rank_of}
use Rattle.sx_ranksel.proofs.Ranks.{rank_le}
use Rattle.sx_ranksel.proofs.directories.block_counts.Goals as goal

pub overflow_add-ones : goal.overflow_add-ones
overflow_add-ones g c =
    let few = rank_le (512 * c.loop-block.block) (number_at c.args.first (g.B.WordBank.words_of c.args.bank.now)) in
    omega (arith, c.loop-block.invariant.ones)

pub loop-block-preserved : goal.loop-block-preserved
loop-block-preserved g c =
    let x = number_at c.args.first (g.B.WordBank.words_of c.args.bank.now) in
    let n = c.loop-block.block in
    let e : 64 * (8 * n) ≡ 512 * n = omega arith in
    let f : 64 * (8 * n + 8) ≡ 512 * (n + 1) = omega arith in
    let e' = ap (λ m. rank_of m x) e in
    let f' = ap (λ m. rank_of m x) f in
    let more = map-range_with_len_more (λ block. rank_of (512 * block) x) 0 (n + 1) (n + 1) (zero-add (n + 1)) in
    let ones : c.loop-block.ones + c.ones_between-ones.result ≡ rank_of (512 * (n + 1)) x = omega (arith, c.loop-block.invariant.ones, c.ones_between-ones.ensures.ones) in
    let counts : c.push-in-loop-block.new.self.items ≡ map (λ block. rank_of (512 * block) x) (range_with_len 0 (n + 1 + 1)) =
    c.in_ok-push-2.ensures.items ∙ (λ i. c.loop-block.invariant.counts i ++ ones i ∷ []) ∙ sym more in
    record {
      counts = counts;
      ones = ones;
      cost = omega (arith, c.loop-block.invariant.cost, c.ones_between-ones.ensures.cost);
    }
