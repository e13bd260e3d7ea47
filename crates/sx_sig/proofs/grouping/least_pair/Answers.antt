use Rattle.std.proofs.Common.{◌≡◌, ℕ, List, [], length, map, take, arith, sym, ap, subst, ◌∙◌, get_or}
use Rattle.std.specs.List.Sorted.{IsPermutation, IsSortedBy}
use Rattle.std.specs.Ordering.{is_lt}
use Rattle.std.proofs.lemmas.List.{length-map, take_all, get_or-map}
use Rattle.sx_spec.specs.declared.Signature.{Signature}
use Rattle.sx_sig.specs.Grouping.{StandTogether, numbered}
use Rattle.sx_sig.proofs.EqualPairs.{entry_cmp, found_more, least_more}
use Rattle.sx_sig.proofs.grouping.least_pair.Goals as goal

pub loop-numbers-preserved : goal.loop-numbers-preserved
loop-numbers-preserved c =
    let sigs = c.args.sigs.now in
    let x = c.loop-numbers.numbers-index in
    let lists = map (λ v. v.items) c.args.lists.now in
    let long : length lists ≡ length c.args.lists.now = length-map c.args.lists.now (λ v. v.items) in
    let numbers = c.numbers-item.result.items in
    let here : get_or lists x [] ≡ numbers = get_or-map (λ v. v.items) c.args.lists.now x c.numbers-item.result [] c.loop-numbers-test.true ∙ ap (λ v. v.items) (sym c.numbers-item.is) in
    let filled : c.fill.new.ordered.items ≡ map (numbered sigs) numbers = c.in_ok-fill.ensures ∙ ap (map (numbered sigs)) c.deref.ensures.value in
    let moved : IsPermutation c.fill.new.ordered.items c.deref-in-loop-numbers.result.now = subst (IsPermutation c.fill.new.ordered.items) (sym c.deref-in-loop-numbers.ensures.value) c.sort_unstable.ensures.permutation in
    let sorted : IsSortedBy (λ x y. is_lt (entry_cmp x y)) c.deref-in-loop-numbers.result.now =
    subst (λ (l : List (Signature × ℕ)). IsSortedBy (λ x y. is_lt (entry_cmp x y)) l) (sym c.deref-in-loop-numbers.ensures.value) c.sort_unstable.ensures.sorted in
    record {
      found = found_more sigs numbers c.fill.new.ordered.items c.deref-in-loop-numbers.result.now c.loop-numbers.found c.least_neighbours-found.result filled moved c.least_neighbours-found.ensures.either c.loop-numbers.invariant.found;
      least = least_more sigs lists x numbers c.fill.new.ordered.items c.deref-in-loop-numbers.result.now c.loop-numbers.found.second c.least_neighbours-found.result.second (omega arith) here filled moved sorted c.least_neighbours-found.ensures.least c.least_neighbours-found.ensures.before c.loop-numbers.invariant.least;
    }

pub returns-clause-least : goal.returns-clause-least
returns-clause-least c i j together =
    let lists = map (λ v. v.items) c.args.lists.now in
    let long : length lists ≡ length c.args.lists.now = length-map c.args.lists.now (λ v. v.items) in
    let whole : take c.loop-numbers.numbers-index lists ≡ lists = take_all c.loop-numbers.numbers-index lists (omega arith) in
    c.loop-numbers.invariant.least i j (subst (λ (l : List (List ℕ)). StandTogether l i j) (sym whole) together)
