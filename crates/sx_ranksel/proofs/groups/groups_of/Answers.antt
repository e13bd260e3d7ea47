use Rattle.std.proofs.Common.{◌+◌, ◌*◌, ◌<◌, ◌∙◌, length, ap, sym, arith}
use Rattle.std.proofs.lemmas.List.{length_push}
use Rattle.sx_ranksel.specs.Directory.{number_at, rank_of}
use Rattle.sx_ranksel.proofs.Ranks.{select_at}
use Rattle.sx_ranksel.proofs.GroupWords.{all_above, below_le, groups_more}
use Rattle.sx_ranksel.proofs.groups.groups_of.Goals as goal

pub select_between-start-requires-clause-high : goal.select_between-start-requires-clause-high
select_between-start-requires-clause-high g c =
    let x = number_at c.args.first (g.B.WordBank.words_of c.args.bank.now) in
    let some : 64 * c.loop-group.group < rank_of c.args.bits x = omega (arith, c.requires.ones, c.div_ceil-count.ensures, c.loop-group-test.true) in
    all_above c.args.bits x (64 * c.loop-group.group) c.div_ceil-to.result some c.div_ceil-to.ensures

pub select_between-end-requires-clause-low : goal.select_between-end-requires-clause-low
select_between-end-requires-clause-low g c =
    let x = number_at c.args.first (g.B.WordBank.words_of c.args.bank.now) in
    let start = c.select_between-start in
    let few = below_le x start.result.place (64 * c.loop-group.group) start.result.below start.ensures.below start.ensures.word in
    omega (arith, c.min-last.ensures, c.div_ceil-count.ensures, c.loop-group-test.true)

pub select_between-end-requires-clause-high : goal.select_between-end-requires-clause-high
select_between-end-requires-clause-high g c =
    let x = number_at c.args.first (g.B.WordBank.words_of c.args.bank.now) in
    let some : c.min-last.result < rank_of c.args.bits x = omega (arith, c.min-last.ensures, c.requires.ones, c.div_ceil-count.ensures, c.loop-group-test.true) in
    all_above c.args.bits x c.min-last.result c.div_ceil-to.result some c.div_ceil-to.ensures

pub group_word-requires-clause-low : goal.group_word-requires-clause-low
group_word-requires-clause-low g c =
    let x = number_at c.args.first (g.B.WordBank.words_of c.args.bank.now) in
    let start = c.select_between-start in
    below_le x start.result.place (64 * c.loop-group.group) start.result.below start.ensures.below start.ensures.word

pub group_word-requires-clause-start : goal.group_word-requires-clause-start
group_word-requires-clause-start g c =
    let x = number_at c.args.first (g.B.WordBank.words_of c.args.bank.now) in
    let start = c.select_between-start in
    let some : 64 * c.loop-group.group < rank_of c.args.bits x = omega (arith, c.requires.ones, c.div_ceil-count.ensures, c.loop-group-test.true) in
    sym (select_at x c.args.bits start.result.place (64 * c.loop-group.group) start.ensures.one start.ensures.below some)

pub group_word-requires-clause-end : goal.group_word-requires-clause-end
group_word-requires-clause-end g c =
    let x = number_at c.args.first (g.B.WordBank.words_of c.args.bank.now) in
    let end = c.select_between-end in
    let some : c.min-last.result < rank_of c.args.bits x = omega (arith, c.min-last.ensures, c.requires.ones, c.div_ceil-count.ensures, c.loop-group-test.true) in
    sym (select_at x c.args.bits end.result.place c.min-last.result end.ensures.one end.ensures.below some)

pub loop-group-preserved : goal.loop-group-preserved
loop-group-preserved g c =
    let x = number_at c.args.first (g.B.WordBank.words_of c.args.bank.now) in
    let h = c.loop-group.invariant in
    let end = c.select_between-end in
    let word = c.in_ok-entry.ensures in
    let few = below_le x end.result.place c.min-last.result end.result.below end.ensures.below end.ensures.word in
    record {
      size = ap length c.in_ok-push.ensures.items ∙ length_push c.loop-group.words.items c.in_ok-entry.entry ∙ ap (λ n. n + 1) h.size;
      groups = groups_more c.args.bits x c.loop-group.group c.in_ok-entry.entry c.loop-group.words.items c.push.new.self.items c.loop-group.places.items c.group_word.new.places.items h.size c.in_ok-push.ensures.items h.groups word.group word.grown word.kept;
      few = omega (arith, h.few, word.few);
      below = end.ensures.word;
      low = omega (arith, c.min-last.ensures);
      order = omega (arith, end.ensures.most, c.div_ceil-to.ensures);
    }
