use Rattle.std.proofs.Common.{map}
use Rattle.sx_sig.proofs.EqualPairs.{inside_each, least_of_all, all_differ, are_twins}
use Rattle.sx_sig.proofs.grouping.first_twins.Goals as goal

pub least_pair-requires-clause-inside : goal.least_pair-requires-clause-inside
least_pair-requires-clause-inside c = inside_each c.args.sigs.now c.args.lists.now c.requires.gathers.inside

pub returns-then-found-sigs : goal.returns-then-found-sigs
returns-then-found-sigs c =
    let lists = map (λ u. u.items) c.args.lists.now in
    let all = least_of_all c.args.sigs.now lists c.in_ok-found.found.second c.requires.gathers c.in_ok-found.ensures.least in
    are_twins c.args.sigs.now c.in_ok-found.found.first c.in_ok-found.found.second c.if-found-sigs.true c.in_ok-found.ensures.found all

pub returns : goal.returns
returns c =
    let lists = map (λ u. u.items) c.args.lists.now in
    let all = least_of_all c.args.sigs.now lists c.in_ok-found.found.second c.requires.gathers c.in_ok-found.ensures.least in
    all_differ c.args.sigs.now c.in_ok-found.found.second c.if-found-sigs.false all
