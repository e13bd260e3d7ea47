use Rattle.std.proofs.Common.{◌<◌, ◌^◌, ℕ, length, get_or, sym, subst}
use Rattle.std.proofs.lemmas.List.Elements.{All-from_recursion}
use Rattle.sx_spec.specs.Parts.{least_width}
use Rattle.sx_spec.proofs.Widths.{least_width_holds}
use Rattle.sx_parts.proofs.parts.build_least.Goals as goal

pub build_part-requires-clause-fit : goal.build_part-requires-clause-fit
build_part-requires-clause-fit c =
    let numbers = c.args.numbers.now in
    subst (λ (w : ℕ). (k : ℕ) (d : ℕ) → k < length numbers → get_or numbers k d < 2 ^ w) (sym c.least_width.ensures.value) (All-from_recursion (λ v. v < 2 ^ least_width numbers) numbers (least_width_holds numbers))
