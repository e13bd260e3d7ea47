use Rattle.std.proofs.Common.{◌≡◌, ◌-◌, ℕ, arith, get_or}
use Rattle.std.proofs.lemmas.List.{get_or_default}
use Rattle.sx_spec.specs.declared.Signature.{Signature}
use Rattle.sx_sig.proofs.EqualPairs.{either_here, least_here}
use Rattle.sx_sig.proofs.grouping.least_neighbours.Goals as goal

pub loop-place-preserved : goal.loop-place-preserved
loop-place-preserved c =
    let ordered = c.args.ordered.now in
    let place = c.loop-place.place in
    let some = c.loop-place.auto.place in
    let inside = c.loop-place-test.true in
    let d : Signature × ℕ = (record { w0 = 0; w1 = 0; w2 = 0 }, 0) in
    let left : Signature × ℕ = get_or ordered (place - 1) d in
    let right : Signature × ℕ = get_or ordered place d in
    let left_at : left ≡ get_or ordered (place - 1) left = get_or_default ordered (place - 1) d left (omega arith) in
    let right_at : right ≡ get_or ordered place right = get_or_default ordered place d right inside in
    record {
      either = either_here ordered place left right some inside left_at right_at c.args.found c.loop-place.found c.nearer-found.result c.nearer-found.ensures.either c.loop-place.invariant.either;
      before = (let a = c.nearer-found.ensures.before in let b = c.loop-place.invariant.before in omega arith);
      least = least_here ordered place left right some inside left_at right_at c.loop-place.found.second c.nearer-found.result.second c.nearer-found.ensures.least c.nearer-found.ensures.before c.loop-place.invariant.least;
    }

pub returns-clause-least : goal.returns-clause-least
returns-clause-least c first second n = let w = n.within in c.loop-place.invariant.least first second n (omega arith)
