use Rattle.std.proofs.Common.{◌+◌, ◌*◌, ◌%◌, ◌^◌, ◌∙◌, ◌++◌, ◌∷◌, [], sym, arith}
use Rattle.std.proofs.lemmas.Nat.{one_shl}
use Rattle.sx_parts.proofs.KeyPairs.{lengths_more}
use Rattle.sx_parts.proofs.numbers.length_numbers.Goals as goal

pub loop-i-preserved : goal.loop-i-preserved
loop-i-preserved c =
    let lens = c.args.lengths.now in
    let i = c.loop-i.i in
    let power = one_shl c.args.log_bucket 64 (omega (arith, c.requires)) in
    c.in_ok-push.ensures.items
    ∙ (λ j. c.loop-i.invariant j ++ (i % power j + power j * c.from.ensures j) ∷ [])
    ∙ sym (lengths_more (2 ^ c.args.log_bucket) lens i c.loop-i-test.true)
