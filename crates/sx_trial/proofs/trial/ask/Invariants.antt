use Rattle.std.proofs.Common.{◌-◌, ◌≤◌}
use Rattle.sx_dump.specs.Opening.{dump_in}
use Rattle.sx_trial.proofs.Answered.{IsAsked}
use Rattle.sx_trial.proofs.trial.ask.Given as goal

abbrev pub invariant-loop-number : goal.invariant-loop-number
invariant-loop-number g l = record {
  asked : IsAsked (dump_in (g.B.WordBank.words_of l.dump.bank)) l.first (l.number - l.first) l.replies.count l.replies.sum;
  counted : l.fn.steps ≤ l.steps;
}
