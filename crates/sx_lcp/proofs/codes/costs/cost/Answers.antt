use Rattle.std.proofs.Common.{◌≡◌, ◌-◌, length, arith}
use Rattle.std.specs.Prelude.{count_by}
use Rattle.sx_spec_kinds.specs.TwoStep.{cost_of, is_escaped, table_of}
use Rattle.sx_lcp.proofs.Costing.{own_sum}
use Rattle.sx_lcp.proofs.codes.costs.cost.Goals as goal

pub overflow_sub-result : goal.overflow_sub-result
overflow_sub-result c =
    let whole = own_sum c.args.values.now c.args.bits c.args.ranked.now c.own_count.result c.counted-own.result c.requires.ranked c.own_count.ensures c.counted-own.ensures in
    omega arith

pub returns : goal.returns
unfolding cost_of
returns c =
    let values = c.args.values.now in
    let whole = own_sum values c.args.bits c.args.ranked.now c.own_count.result c.counted-own.result c.requires.ranked c.own_count.ensures c.counted-own.ensures in
    let escaped : length values - c.counted-own.result ≡ count_by (is_escaped (table_of values c.args.bits)) values = omega arith in
    cc
