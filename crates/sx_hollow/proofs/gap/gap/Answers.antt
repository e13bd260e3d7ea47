use Rattle.std.proofs.Common.{◌-◌, sym, ◌∙◌}
use Rattle.sx_hollow.specs.Views.{sums_read}
use Rattle.sx_hollow.proofs.Gaps.{gap_at}
use Rattle.sx_hollow.proofs.gap.gap.Goals as goal

pub returns-clause-value : goal.returns-clause-value
returns-clause-value g c =
    c.saturating_sub.ensures
    ∙ (λ j. c.pair-low.ensures.second j - c.pair-low.ensures.first j)
    ∙ sym (gap_at (sums_read c.args.sums.now) c.args.i c.requires)
