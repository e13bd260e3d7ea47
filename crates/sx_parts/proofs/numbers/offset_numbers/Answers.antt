use Rattle.std.proofs.Common.{◌%◌, ◌^◌, ◌∙◌, ◌++◌, ◌∷◌, [], ℕ, sym, arith}
use Rattle.std.proofs.lemmas.List.FromFn.{map-range_with_len_more}
use Rattle.std.proofs.lemmas.Nat.{one_shl}
use Rattle.sx_parts.proofs.numbers.offset_numbers.Goals as goal

pub loop-i-preserved : goal.loop-i-preserved
loop-i-preserved c =
    let i = c.loop-i.i in
    let power = one_shl c.args.log_bucket 64 (omega (arith, c.requires)) in
    let size = 2 ^ c.args.log_bucket in
    c.in_ok-push.ensures.items
    ∙ (λ j. c.loop-i.invariant j ++ (c.from.ensures j % power j) ∷ [])
    ∙ sym (map-range_with_len_more (λ (n : ℕ). n % size) 0 i i (omega arith))
