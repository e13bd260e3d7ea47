use Rattle.std.proofs.Common.{◌≡◌, ℕ, List, map, subst, Bor}
use Rattle.sx_dump.specs.Opening.{dump_in}
use Rattle.sux_c.specs.Answers.{answer_for, number_of, status_of}
use Rattle.sux_c.proofs.asking.sux_replies.Goals as goal

pub returns-else-statuses-lines-clause-statuses : goal.returns-else-statuses-lines-clause-statuses
returns-else-statuses-lines-clause-statuses c = λ done.
    subst (λ (words : List ℕ). c.ask_all.new.statuses ≡ map (λ (l : Bor (List ℕ)). status_of (answer_for (dump_in words) l.now)) c.args.lines.now)
    c.in-Some.ensures.words c.ask_all.ensures.statuses

pub returns-else-statuses-lines-clause-values : goal.returns-else-statuses-lines-clause-values
returns-else-statuses-lines-clause-values c = λ done.
    subst (λ (words : List ℕ). c.ask_all.new.values ≡ map (λ (l : Bor (List ℕ)). number_of (answer_for (dump_in words) l.now)) c.args.lines.now)
    c.in-Some.ensures.words c.ask_all.ensures.values
