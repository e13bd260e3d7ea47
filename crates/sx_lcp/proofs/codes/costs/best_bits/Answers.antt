use Rattle.std.proofs.Common.{◌≡◌, ◌-◌, ap, sym, ◌∙◌, arith}
use Rattle.sx_spec_strings.specs.Numbers.{least_at}
use Rattle.sx_spec_kinds.specs.TwoStep.{bits_of, cost_of, width_of}
use Rattle.sx_lcp.proofs.Costing.{best_then, best_else, least_none}
use Rattle.sx_lcp.proofs.codes.costs.best_bits.Goals as goal
use Rattle.sx_lcp.proofs.codes.costs.best_bits.Goals.{then-next-least, else-next-least}

pub loop-bits-init : goal.loop-bits-init
loop-bits-init c = record {
  best = sym (least_none (cost_of c.args.values.now));
  least = c.cost-least.ensures;
  before = omega arith;
}

pub loop-bits-preserved : goal.loop-bits-preserved
loop-bits-preserved c =
    let f = cost_of c.args.values.now in
    let l = c.loop-bits in
    let new = c.cost-next.ensures in
    elim c.if-next-least.branch [
      | then-next-least w ↦ record {
        best = best_then f l.bits l.best l.least c.cost-next.result c.if-next-least.best (omega arith) l.invariant.best l.invariant.least new w.if-next-least.true w.best-is;
        least = w.least-is ∙ new ∙ ap f (sym w.best-is);
        before = omega arith;
      }
      | else-next-least w ↦ record {
        best = best_else f l.bits l.best l.least c.cost-next.result c.if-next-least.best (omega arith) l.invariant.best l.invariant.least new w.if-next-least.false w.best-is;
        least = w.least-is ∙ l.invariant.least ∙ ap f (sym w.best-is);
        before = omega arith;
      }
    ]

pub returns-clause-value : goal.returns-clause-value
unfolding bits_of
returns-clause-value c =
    let last : c.loop-bits.bits - 1 ≡ width_of c.args.values.now = omega arith in
    c.loop-bits.invariant.best ∙ ap (least_at (cost_of c.args.values.now)) last
