use Rattle.std.proofs.Common.{length, subst, sym, inr, Result, MatchResult}
use Rattle.std.proofs.lemmas.Result.{err_from_is_err_and}
use Rattle.sx_spec_kinds.specs.Blocks.{block_size}
use Rattle.sx_assemble.specs.KeyFunctions.{AreKeyFunctions, StopsKeyFunctions}
use Rattle.sx_parts.specs.Ranking.{offset_numbers}
use Rattle.sx_assemble.specs.declared.lcp2.KeyFunctions.{KeyFunctions}
use Rattle.sx_parts.specs.declared.parts.Stop.{Stop}
use Rattle.sx_assemble.proofs.lcp2.key_functions.Goals as goal

pub returns-in_err-codes-in-Gov3 : goal.returns-in_err-codes-in-Gov3
returns-in_err-codes-in-Gov3 c =
    let sigs = c.args.sigs.now in
    let method = c.args.plan.now.method in
    let codes = c.args.codes.now.codes.items in
    let offsets = offset_numbers (block_size c.args.plan.now.log_bucket) (length sigs) in
    let Built : KeyFunctions → Type 0 = AreKeyFunctions method sigs offsets codes c.args.codes.now.bits in
    let Stops : Stop → Type 0 = StopsKeyFunctions method sigs offsets codes in
    let (x, at, same) = err_from_is_err_and c.from_residual-in_err-codes-in-Gov3.result c.from_residual-in_err-codes-in-Gov3.ensures.1 in
    let stops : Stops c.in_err-codes-in-Gov3.field-0.0 = inr (record {
      first = c.in_ok-offsets-in-Gov3.offsets;
      done = c.in_ok-offsets-in-Gov3.ensures.built;
      second = c.in_err-codes-in-Gov3.ensures;
    }) in
    subst (λ (o : Result KeyFunctions Stop). MatchResult o Built Stops) (sym at) (subst Stops (sym same) stops)
