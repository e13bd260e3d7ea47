-- There are as many numbers as keys.
use Rattle.std.proofs.Common.{length, ap, ◌∙◌}
use Rattle.std.proofs.lemmas.List.FromFn.{length-range_with_len}
use Rattle.sux_fuzz.proofs.dumps.values_of.Goals as goal

pub returns-clause-many : goal.returns-clause-many
returns-clause-many c = ap length c.in_ok-numbers.ensures ∙ length-range_with_len 0 c.args.count
