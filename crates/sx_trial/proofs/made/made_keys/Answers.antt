use Rattle.std.proofs.Common.{◌∙◌, ap, arith}
use Rattle.sx_bits.specs.KeyLists.{Keys}
use Rattle.sx_trial.proofs.MadeLines.{line_taken, refused_for_memory}
use Rattle.sx_trial.proofs.made.made_keys.Goals as goal

pub unreachable-requires : goal.unreachable-requires
unreachable-requires c =
    c.in_default.not-Memory (refused_for_memory c.loop-number.number (omega arith) c.loop-number.keys.limits c.loop-number.keys.lines c.eight_digits.result c.in-Err.fault
    c.loop-number.invariant.limits c.loop-number.invariant.lines c.eight_digits.ensures c.in-Err.ensures.refusal)

pub loop-number-preserved : goal.loop-number-preserved
loop-number-preserved c = record {
  limits = c.in-Ok.ensures.limits ∙ c.loop-number.invariant.limits;
  lines = line_taken c.loop-number.number c.loop-number.keys.lines c.push.new.self.lines c.eight_digits.result c.loop-number.invariant.lines c.eight_digits.ensures
      (ap (λ (keys : Keys). keys.lines) c.in-Ok.ensures.ok);
}
