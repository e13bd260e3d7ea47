-- Two-step codes, as the code has them.
use Rattle.sx_spec_kinds.specs.TwoStep.{TwoStep as TwoStepOf}
use Rattle.sx_lcp.specs.declared.codes.TwoStep.{TwoStep}

-- the codes that they stand for
abbrev pub two_step_as : TwoStep → TwoStepOf
two_step_as t = record {
  bits = t.bits;
  table = t.table.items;
  codes = t.codes.items;
  escaped = t.escaped.items;
}
