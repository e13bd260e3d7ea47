use Rattle.std.proofs.Common.{◌≡◌, ◌∙◌, ap, arith, length, List, ℕ}
use Rattle.std.specs.Prelude.{unwrap_or, ◌==◌}
use Rattle.std.proofs.lemmas.List.{length-map}
use Rattle.std.proofs.lemmas.List.Splits.{length-slice_split}
use Rattle.sx_spec.specs.Values.{value_on}
use Rattle.sx_spec.specs.Command.{seed_texts}
use Rattle.sx_words.proofs.seeds.seeds_listed.Goals as goal

pub invariant_of-result : goal.invariant_of-result
invariant_of-result c =
    let many : length c.in_ok-numbers.numbers.items ≡ length (seed_texts c.args.text.now) =
    ap (λ (ns : List ℕ). length ns) c.in_ok-numbers.ensures ∙ length-map (seed_texts c.args.text.now) (λ t. unwrap_or (value_on t) 0) in
    let some = length-slice_split (λ b. b == 44) c.args.text.now in
    (omega arith, omega (arith, c.count_texts.ensures))
