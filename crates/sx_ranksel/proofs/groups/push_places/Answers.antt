use Rattle.std.proofs.Common.{◌≡◌, ◌+◌, ◌-◌, ◌++◌, ◌∷◌, [], ◌∙◌, map, ap, sym, append_assoc, arith}
use Rattle.std.specs.List.{range_with_len}
use Rattle.std.proofs.lemmas.List.FromFn.{map-range_with_len_more}
use Rattle.sx_ranksel.specs.Directory.{number_at}
use Rattle.sx_ranksel.specs.Groups.{place_of}
use Rattle.sx_ranksel.proofs.Ranks.{rank_le, select_at}
use Rattle.sx_ranksel.proofs.GroupWords.{all_above, below_le}
use Rattle.sx_ranksel.proofs.groups.push_places.Goals as goal

pub overflow_add-k-end : goal.overflow_add-k-end
overflow_add-k-end g c =
    let few = rank_le c.args.bits (number_at c.args.first (g.B.WordBank.words_of c.args.bank.now)) in
    omega (arith, c.requires.last, c.requires.few)

pub select_between-one-requires-clause-high : goal.select_between-one-requires-clause-high
select_between-one-requires-clause-high g c =
    let x = number_at c.args.first (g.B.WordBank.words_of c.args.bank.now) in
    all_above c.args.bits x c.loop-k.k c.div_ceil-to.result (omega (arith, c.requires.last)) c.div_ceil-to.ensures

pub loop-k-preserved : goal.loop-k-preserved
loop-k-preserved g c =
    let x = number_at c.args.first (g.B.WordBank.words_of c.args.bank.now) in
    let k = c.loop-k.k in
    let from = c.args.from in
    let one = c.select_between-one in
    let f = place_of c.args.bits x in
    let place : f k ≡ one.result.place = select_at x c.args.bits one.result.place k one.ensures.one one.ensures.below (omega (arith, c.requires.last)) in
    let at : from + (k - from) ≡ k = omega arith in
    let next : k + 1 - from ≡ k - from + 1 = omega arith in
    let more : map f (range_with_len from (k + 1 - from)) ≡ map f (range_with_len from (k - from)) ++ one.result.place ∷ [] =
    ap (λ n. map f (range_with_len from n)) next ∙ map-range_with_len_more f from (k - from) k at ∙ ap (λ p. map f (range_with_len from (k - from)) ++ p ∷ []) place in
    let items : c.push.new.self.items ≡ c.args.places.now.items ++ map f (range_with_len from (k + 1 - from)) =
    c.in_ok-push.ensures.items
    ∙ ap (λ ps. ps ++ one.result.place ∷ []) c.loop-k.invariant.places
    ∙ append_assoc c.args.places.now.items (map f (range_with_len from (k - from))) (one.result.place ∷ [])
    ∙ ap (λ ps. c.args.places.now.items ++ ps) (sym more) in
    let few = below_le x one.result.place k one.result.below one.ensures.below one.ensures.word in
    record {
      places = items;
      below = one.ensures.word;
      low = omega arith;
      start = omega (arith, one.ensures.most, c.div_ceil-to.ensures);
    }
