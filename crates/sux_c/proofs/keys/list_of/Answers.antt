use Rattle.std.proofs.lemmas.Result.{err_from_is_err_and}
use Rattle.sux_c.proofs.FirstFaults.{stops}
use Rattle.sux_c.proofs.keys.list_of.Goals as goal

pub returns-in_err-push_key-clause-stop : goal.returns-in_err-push_key-clause-stop
returns-in_err-push_key-clause-stop c =
    let left = err_from_is_err_and c.from_residual.result c.from_residual.ensures.1 in
    rw (left.1, left.2) (stops c.args.keys.now c.keys.key-index _ c.keys.list.lines c.in_err-push_key.field-0.0 c.keys.invariant.lines c.keys-test.true c.keys.invariant.valid c.in_err-push_key.ensures.put)
