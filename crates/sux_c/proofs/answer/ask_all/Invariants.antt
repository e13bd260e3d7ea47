use Rattle.std.proofs.Common.{◌≡◌, length, map, take}
use Rattle.sx_dump.specs.Opening.{dump_in}
use Rattle.sux_c.specs.Answers.{answer_for, number_of, status_of}
use Rattle.sux_c.proofs.answer.ask_all.Given as goal

abbrev pub invariant-lines : goal.invariant-lines
invariant-lines l = record {
  values_long : length l.values ≡ length l.lines;
  statuses_long : length l.statuses ≡ length l.lines;
  values : take l.i l.values ≡ map (λ line. number_of (answer_for (dump_in l.dump.bank.words.now) line.now)) (take l.i l.lines);
  statuses : take l.i l.statuses ≡ map (λ line. status_of (answer_for (dump_in l.dump.bank.words.now) line.now)) (take l.i l.lines);
}
