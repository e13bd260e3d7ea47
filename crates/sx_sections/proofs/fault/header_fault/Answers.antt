use Rattle.std.proofs.Common.{◌∙◌}
use Rattle.sx_sections.proofs.Offered.{all_offered}
use Rattle.sx_sections.proofs.fault.header_fault.Goals as goal

pub returns-clause-first : goal.returns-clause-first
returns-clause-first c = c.offered_fault.ensures.first ∙ all_offered c.args.words.now c.args.bytes
