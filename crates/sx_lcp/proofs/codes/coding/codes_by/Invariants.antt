use Rattle.std.proofs.Common.{◌≡◌, map, take}
use Rattle.sx_spec_kinds.specs.TwoStep.{code_of}
use Rattle.sx_lcp.proofs.codes.coding.codes_by.Given as goal

abbrev pub invariant-loop-value : goal.invariant-loop-value
invariant-loop-value l = record {
  codes : l.codes.items ≡ map (code_of l.table l.bits) (take l.value-index l.values);
  known : l.code ≡ code_of l.table l.bits l.known;
}
