use Rattle.std.proofs.Common.{◌≡◌, ◌+◌, ℕ, length, subst, arith, inl, inr}
use Rattle.std.specs.List.{AllZip, range_with_len}
use Rattle.std.proofs.lemmas.Bool.{cases_lt}
use Rattle.sx_spec.specs.Chunks.{segment}
use Rattle.sx_spec.specs.StaticFunction.{CanBeBuilt}
use Rattle.sx_static.specs.Answer.{witness_numbers}
use Rattle.sx_static.specs.Tries.{IsTry, IsFailure, try_equations}
use Rattle.sx_static.specs.declared.tries.Try.TheVariants.{Fails}
use Rattle.sx_static.proofs.Solutions.{refuted, range_push}
use Rattle.sx_static.proofs.chunk.make_tries.Goals as goal

pub loop-number-preserved : goal.loop-number-preserved
loop-number-preserved c =
    let method = c.args.method in
    let s = c.segment-s.result in
    let sigs = c.args.sigs.now in
    let values = c.args.values.now in
    let numbers = c.args.numbers.now in
    let n = c.loop-number.number in
    let fails : IsTry method s n sigs values (Fails c.in-Fails.witness) = subst (IsTry method s n sigs values) c.in-Fails.is c.in_ok-cells.ensures in
    let named = c.in_ok-of_pairs-in-Fails in
    let here : IsFailure method s sigs values numbers n named.field-0 = record {
      places = witness_numbers c.in-Fails.witness;
      refuting = fails.0;
      named = named.ensures.numbers;
      kind = named.ensures.kind method fails.1;
    } in
    record {
      none = λ t below works. elim (cases_lt t n) [
        | inl before ↦ c.loop-number.invariant.none t before works
        | inr after ↦ let same : t ≡ n = omega arith in refuted s n sigs values c.requires.values method (witness_numbers c.in-Fails.witness) fails.0 (subst (λ k. CanBeBuilt method (try_equations s k sigs values)) same works)
      ];
      each = rw c.in_ok-push-in-Fails.ensures.items (range_push (IsFailure method s sigs values numbers) 0 n c.loop-number.witnesses.items named.field-0 c.loop-number.invariant.each (let e : n ≡ 0 + n = omega arith in subst (λ (k : ℕ). IsFailure method s sigs values numbers k named.field-0) e here));
    }

pub returns : goal.returns
returns c differ =
    let all : c.loop-number.number ≡ 64 = omega arith in
    let Each : ℕ → ℕ → Type 0 = λ s n. AllZip (IsFailure c.args.method s c.args.sigs.now c.args.values.now c.args.numbers.now) (range_with_len 0 n) c.loop-number.witnesses.items in
    subst (λ (n : ℕ). Each (segment c.args.method (length c.args.sigs.now)) n) all (subst (λ (s : ℕ). Each s c.loop-number.number) c.segment-s.ensures c.loop-number.invariant.each)
