use Rattle.std.proofs.Common.{◌∙◌, arith}
use Rattle.sx_parts.proofs.SignedEnds.{few_signatures}
use Rattle.sx_parts.proofs.signed.with_key_signatures.Goals as goal

pub with_signatures-requires-clause-few : goal.with_signatures-requires-clause-few
with_signatures-requires-clause-few c =
    let few = few_signatures c.args.keys.now c.sign_keys.ensures.keys _ _ c.deref.result.now (c.deref.ensures.value ∙ c.in_ok-sigs.ensures.signed) in
    omega arith
