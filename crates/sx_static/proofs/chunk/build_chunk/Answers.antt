use Rattle.std.proofs.Common.{◌≡◌, ◌<◌, ◌∙◌, ℕ, List, length, ap, sym, subst, arith}
use Rattle.std.specs.Prelude.{IfOk, slice_index_or}
use Rattle.std.proofs.lemmas.List.Elements.{recursion_from_All}
use Rattle.sx_spec.specs.declared.Signature.{Signature}
use Rattle.sx_spec.specs.Chunks.{segment}
use Rattle.sx_spec.specs.Systems.{chosen}
use Rattle.sx_static.specs.Tries.{IsTried}
use Rattle.sx_static.proofs.Numbers.{length_chosen}
use Rattle.sx_static.proofs.chunk.build_chunk.Goals as goal

-- as many elements are chosen as there are numbers
many : {X : Type 0} (xs ys : List X) (numbers : List ℕ) → ys ≡ chosen xs numbers → ((k d : ℕ) → k < length numbers → slice_index_or numbers k d < length xs) → length ys ≡ length numbers
many xs ys numbers is within = ap length is ∙ length_chosen xs numbers (recursion_from_All (λ i. i < length xs) numbers within)

pub make_tries-requires-clause-numbers : goal.make_tries-requires-clause-numbers
make_tries-requires-clause-numbers c =
    sym (many c.args.sigs.now c.deref.result.now c.args.numbers.now (c.deref.ensures.value ∙ c.in_ok-own_sigs.ensures) c.requires.within)

pub make_tries-requires-clause-values : goal.make_tries-requires-clause-values
make_tries-requires-clause-values c =
    let numbers = c.args.numbers.now in
    let a = many c.args.sigs.now c.deref.result.now numbers (c.deref.ensures.value ∙ c.in_ok-own_sigs.ensures) c.requires.within in
    let b = many c.args.values.now c.deref-2.result.now numbers (c.deref-2.ensures.value ∙ c.in_ok-own_values.ensures) (rw c.requires.values c.requires.within) in
    omega arith

pub make_tries-requires-clause-few : goal.make_tries-requires-clause-few
make_tries-requires-clause-few c =
    let a = many c.args.sigs.now c.deref.result.now c.args.numbers.now (c.deref.ensures.value ∙ c.in_ok-own_sigs.ensures) c.requires.within in
    omega arith

pub returns : goal.returns
returns c =
    let numbers = c.args.numbers.now in
    let method = c.args.method in
    let result = c.make_tries.result in
    let sigs_are = c.deref.ensures.value ∙ c.in_ok-own_sigs.ensures in
    let values_are = c.deref-2.ensures.value ∙ c.in_ok-own_values.ensures in
    let size = ap (segment method) (many c.args.sigs.now c.deref.result.now numbers sigs_are c.requires.within) in
    subst (λ (s : ℕ). IfOk result (λ r. IsTried method s (chosen c.args.sigs.now numbers) (chosen c.args.values.now numbers) numbers r)) size
    (subst (λ (vs : List ℕ). IfOk result (λ r. IsTried method (segment method (length c.deref.result.now)) (chosen c.args.sigs.now numbers) vs numbers r)) values_are
    (subst (λ (ss : List Signature). IfOk result (λ r. IsTried method (segment method (length c.deref.result.now)) ss c.deref-2.result.now numbers r)) sigs_are c.make_tries.ensures))
