use Rattle.std.proofs.Common.{◌≡◌, ◌≢◌, length, sym, subst, ◌∙◌}
use Rattle.std.specs.Prelude.{All}
use Rattle.sx_peel.specs.Peeling.{IsEdgeWithin}
use Rattle.sx_peel.proofs.Visits.{ended_order, ended_core}
use Rattle.sx_peel.proofs.peel.Goals as goal

pub returns-then-has_taken : goal.returns-then-has_taken
returns-then-has_taken c =
    rw c.into_order.ensures (ended_order c.args.edges.now c.run.new.links c.run.new.self.order.items c.in_ok-run.ensures.ended (c.has_taken.ensures.0 c.if-has_taken.true))

pub returns : goal.returns
returns c =
    let edges = c.args.edges.now in
    let links = c.run.new.links in
    let order = c.run.new.self.order.items in
    let ended = c.in_ok-run.ensures.ended in
    let size : length links.lists ≡ c.args.vertices = c.in_ok-run.ensures.size ∙ c.in_ok-links.ensures.bound in
    let within : All (IsEdgeWithin (length links.lists)) edges = subst (λ bound. All (IsEdgeWithin bound) edges) (sym size) c.requires.within in
    let fewer : length order ≢ length edges = λ all. let both = c.has_taken.ensures.1 all in absurd cc in
    rw (c.in_ok-edges_left.ensures order ended.linked) (ended_core edges links order within ended fewer)
