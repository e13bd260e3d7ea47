use Rattle.std.proofs.Common.{◌<◌, Some, None, get_or, refl, arith}
use Rattle.sx_ef.proofs.Sections.{checks_at, valid_at}
use Rattle.sx_ef.proofs.section.checked_bound.Goals as goal

pub returns-in-Some-clause-checks : goal.returns-in-Some-clause-checks
returns-in-Some-clause-checks c =
    let rest = c.args.rest.now in
    let positive : 0 < get_or rest 1 0 = let some = c.if-below-eq0.false in omega arith in
    checks_at rest c.args.count (get_or rest 1 0) c.parts_size-size.result (Some c.in-Some.check) c.if-rest-count.false refl c.if-rest-lt2.false positive c.parts_size-size.ensures c.if-rest-size.false c.in-Some.ensures

pub returns-in-None-clause-checks : goal.returns-in-None-clause-checks
returns-in-None-clause-checks c =
    let rest = c.args.rest.now in
    let positive : 0 < get_or rest 1 0 = let some = c.if-below-eq0.false in omega arith in
    checks_at rest c.args.count (get_or rest 1 0) c.parts_size-size.result None c.if-rest-count.false refl c.if-rest-lt2.false positive c.parts_size-size.ensures c.if-rest-size.false c.in-None.ensures

pub returns-in-None-clause-valid : goal.returns-in-None-clause-valid
returns-in-None-clause-valid c =
    valid_at c.args.rest.now c.args.count (get_or c.args.rest.now 1 0) c.parts_size-size.result c.parts_size-size.ensures c.in-None.ensures
