use Rattle.std.proofs.Common.{◌≡◌, ◌∙◌, ◌+◌, ◌<◌, ◌≤◌, ◌^◌, ℕ, suc, List, length, ap, subst, sym, arith}
use Rattle.std.specs.List.{slice_index}
use Rattle.sx_spec.specs.Built.{sums_from}
use Rattle.sx_spec.specs.Fields.{below_of}
use Rattle.sx_assemble.proofs.HollowDumps.{length-sums, sums_fit, sums_rise}
use Rattle.sx_assemble.proofs.hollow.sums_section.Goals as goal

pub encode-requires-clause-some : goal.encode-requires-clause-some
encode-requires-clause-some c =
    let count : length c.deref.result.now ≡ suc (length c.args.numbers.now) = ap (λ (l : List ℕ). length l) (c.deref.ensures.value ∙ c.in_ok-sums.ensures) ∙ length-sums 0 c.args.numbers.now in
    omega arith

pub encode-requires-clause-short : goal.encode-requires-clause-short
encode-requires-clause-short c =
    let count : length c.deref.result.now ≡ suc (length c.args.numbers.now) = ap (λ (l : List ℕ). length l) (c.deref.ensures.value ∙ c.in_ok-sums.ensures) ∙ length-sums 0 c.args.numbers.now in
    omega (arith, c.requires)

pub encode-requires-clause-rising : goal.encode-requires-clause-rising
encode-requires-clause-rising c =
    let same : c.deref.result.now ≡ sums_from 0 c.args.numbers.now = c.deref.ensures.value ∙ c.in_ok-sums.ensures in
    subst (λ (l : List ℕ). (i : ℕ) → i + 1 < length l → slice_index l i ≤ slice_index l (i + 1)) (sym same) (sums_rise 0 c.args.numbers.now)

pub encode-requires-clause-last : goal.encode-requires-clause-last
encode-requires-clause-last c =
    let same : c.deref.result.now ≡ sums_from 0 c.args.numbers.now = c.deref.ensures.value ∙ c.in_ok-sums.ensures in
    subst (λ (l : List ℕ). below_of l < 2 ^ 64) (sym same) (sums_fit c.args.numbers.now c.requires (λ i. omega (arith, c.type_inv.numbers i)))
