use Rattle.std.proofs.Common.{◌+◌, subst}
use Rattle.sx_spec.specs.StaticFunction.{stuck, twins}
use Rattle.sx_spec.specs.declared.Method.TheVariants.{Mwhc}
use Rattle.sx_static.specs.Answer.{IsAnswer, entries_of, witness_numbers}
use Rattle.std.proofs.Common.{map}
use Rattle.sx_static.proofs.BitParts.{part_done, cause_part, cells_few}
use Rattle.sx_static.proofs.both.build_both.Goals as goal

pub part_of-requires-clause-short : goal.part_of-requires-clause-short
part_of-requires-clause-short c =
    let sigs = c.args.sigs.now in
    let values = c.args.values.now in
    let width = c.args.shift + c.args.high in
    let done = subst (IsAnswer Mwhc 64 width (entries_of sigs values)) c.in-Done.is c.in_ok-whole.ensures in
    cells_few 64 width sigs values c.requires.values c.requires.few c.in-Done.whole done

pub part_of-requires-in-Done-clause-short : goal.part_of-requires-in-Done-clause-short
part_of-requires-in-Done-clause-short c =
    let sigs = c.args.sigs.now in
    let values = c.args.values.now in
    let width = c.args.shift + c.args.high in
    let done = subst (IsAnswer Mwhc 64 width (entries_of sigs values)) c.in-Done.is c.in_ok-whole.ensures in
    cells_few 64 width sigs values c.requires.values c.requires.few c.in-Done.whole done

pub returns-in_ok-upper-in-Done : goal.returns-in_ok-upper-in-Done
returns-in_ok-upper-in-Done c =
    let sigs = c.args.sigs.now in
    let values = c.args.values.now in
    let low = c.args.low in
    let shift = c.args.shift in
    let high = c.args.high in
    let done = subst (IsAnswer Mwhc 64 (shift + high) (entries_of sigs values)) c.in-Done.is c.in_ok-whole.ensures in (
      part_done 0 low 64 (shift + high) sigs values c.in-Done.whole c.in_ok-lower-in-Done.lower done c.in_ok-lower-in-Done.ensures,
      part_done shift high 64 (shift + high) sigs values c.in-Done.whole c.in_ok-upper-in-Done.upper done c.in_ok-upper-in-Done.ensures,
    )

pub returns-in-Twins : goal.returns-in-Twins
returns-in-Twins c =
    let sigs = c.args.sigs.now in
    let values = c.args.values.now in
    let low = c.args.low in
    let shift = c.args.shift in
    let high = c.args.high in
    let answer = subst (IsAnswer Mwhc 64 (shift + high) (entries_of sigs values)) c.in-Twins.is c.in_ok-whole.ensures in
    let cause = twins c.in-Twins.first c.in-Twins.second in
    (cause_part 0 low 64 (shift + high) sigs values cause answer, cause_part shift high 64 (shift + high) sigs values cause answer)

pub returns-in-Stuck : goal.returns-in-Stuck
returns-in-Stuck c =
    let sigs = c.args.sigs.now in
    let values = c.args.values.now in
    let low = c.args.low in
    let shift = c.args.shift in
    let high = c.args.high in
    let answer = subst (IsAnswer Mwhc 64 (shift + high) (entries_of sigs values)) c.in-Stuck.is c.in_ok-whole.ensures in
    let cause = stuck c.in-Stuck.chunk (map witness_numbers c.in-Stuck.witnesses.items) in
    ((cause_part 0 low 64 (shift + high) sigs values cause answer.0, answer.1), (cause_part shift high 64 (shift + high) sigs values cause answer.0, answer.1))
