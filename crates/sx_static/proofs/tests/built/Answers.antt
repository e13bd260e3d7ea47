use Rattle.std.proofs.Common.{arith}
use Rattle.std.proofs.lemmas.List.{get_or_default}
use Rattle.sx_static.proofs.tests.built.Goals as goal

pub build-requires-clause-fit : goal.build-requires-clause-fit
build-requires-clause-fit c = λ k d h.
    let same = get_or_default c.args.values.now k d 0 h in
    let small = c.type_inv.values k in
    omega arith
