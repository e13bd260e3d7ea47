use Rattle.std.proofs.Common.{◌%◌, ◌^◌, ◌∙◌, ℕ, ap, sym, arith}
use Rattle.std.specs.Prelude.{fold, max}
use Rattle.std.proofs.lemmas.List.FromFn.{map-range_with_len_more}
use Rattle.std.proofs.lemmas.Nat.{one_shl}
use Rattle.sx_parts.specs.Ranking.{offset_numbers}
use Rattle.sx_parts.proofs.KeyNumbers.{fold_push}
use Rattle.sx_parts.proofs.numbers.offset_width.Goals as goal

pub loop-i-preserved : goal.loop-i-preserved
loop-i-preserved c =
    let i = c.loop-i.i in
    let power = one_shl c.args.log_bucket 64 (omega (arith, c.requires)) in
    let size = 2 ^ c.args.log_bucket in
    let more = map-range_with_len_more (λ (n : ℕ). n % size) 0 i i (omega arith) in
    record {
      greatest = c.max-greatest.ensures
          ∙ (λ j. max (c.loop-i.invariant.greatest j) (c.from.ensures j % power j))
          ∙ sym (ap (fold max 0) more ∙ fold_push 0 (offset_numbers size i) (i % size));
      small = (let fits = c.max-greatest.type_inv in omega arith);
    }
