use Rattle.std.proofs.Common.{◌≡◌, ◌≤◌, ◌^◌, ◌∙◌, ℕ, map, length, ap, sym, subst, refl, inl}
use Rattle.sx_spec.specs.StaticFunction.{stuck, twins}
use Rattle.sx_spec.specs.declared.Method.TheVariants.{Mwhc}
use Rattle.sx_static.specs.Answer.{witness_numbers}
use Rattle.sx_static.specs.Both.{AreBoth}
use Rattle.sx_assemble.specs.KeyFunctions.{StopsKeyFunctions}
use Rattle.sx_parts.specs.Ranking.{length_numbers, offset_numbers}
use Rattle.sx_parts.proofs.KeyNumbers.{first_cause, first_done, second_done, values_fit, values_many}
use Rattle.sx_assemble.proofs.lcp2.peeled_functions.Goals as goal

pub build_both-requires-clause-values : goal.build_both-requires-clause-values
build_both-requires-clause-values c =
    let sigs = c.args.sigs.now in
    let k = c.args.log_bucket in
    let codes = c.args.codes.now.codes.items in
    let bits = c.args.codes.now.bits in
    let low = c.offset_width-low.result in
    let values = c.deref-2.result.now in
    let values_are : values ≡ length_numbers (2 ^ k) codes = c.deref-2.ensures.value ∙ c.in_ok-numbers.ensures ∙ ap (length_numbers (2 ^ k)) c.deref.ensures.value in
    values_many k low bits sigs codes values c.requires.numbers values_are

pub build_both-requires-clause-fit : goal.build_both-requires-clause-fit
build_both-requires-clause-fit c =
    let sigs = c.args.sigs.now in
    let k = c.args.log_bucket in
    let codes = c.args.codes.now.codes.items in
    let bits = c.args.codes.now.bits in
    let low = c.offset_width-low.result in
    let values = c.deref-2.result.now in
    let values_are : values ≡ length_numbers (2 ^ k) codes = c.deref-2.ensures.value ∙ c.in_ok-numbers.ensures ∙ ap (length_numbers (2 ^ k)) c.deref.ensures.value in
    values_fit k low bits sigs codes values c.requires.numbers values_are c.requires.fit

pub returns-in-Done : goal.returns-in-Done
returns-in-Done c =
    let sigs = c.args.sigs.now in
    let k = c.args.log_bucket in
    let codes = c.args.codes.now.codes.items in
    let bits = c.args.codes.now.bits in
    let low = c.offset_width-low.result in
    let values = c.deref-2.result.now in
    let values_are : values ≡ length_numbers (2 ^ k) codes = c.deref-2.ensures.value ∙ c.in_ok-numbers.ensures ∙ ap (length_numbers (2 ^ k)) c.deref.ensures.value in
    let both = subst (AreBoth 64 low k bits sigs values) c.in-Done.is c.in_ok-low.ensures in
    record {
      first = first_done k low bits sigs codes values c.requires.numbers values_are c.offset_width-low.ensures.value c.in-Done.low both.0;
      second = second_done k low bits sigs codes values c.requires.numbers values_are c.requires.fit c.in-Done.high both.1;
      narrow = subst (λ (w : ℕ). w ≤ 64) (sym both.0.built.width) c.offset_width-low.ensures.bound;
    }

pub returns-in-Twins : goal.returns-in-Twins
returns-in-Twins c =
    let sigs = c.args.sigs.now in
    let k = c.args.log_bucket in
    let codes = c.args.codes.now.codes.items in
    let bits = c.args.codes.now.bits in
    let low = c.offset_width-low.result in
    let values = c.deref-2.result.now in
    let values_are : values ≡ length_numbers (2 ^ k) codes = c.deref-2.ensures.value ∙ c.in_ok-numbers.ensures ∙ ap (length_numbers (2 ^ k)) c.deref.ensures.value in
    let both = subst (AreBoth 64 low k bits sigs values) c.in-Twins.is c.in_ok-low.ensures in
    subst (StopsKeyFunctions Mwhc sigs (offset_numbers (2 ^ k) (length sigs)) codes) (sym c.failed.ensures)
    (inl (record {
      part = refl;
      cause = first_cause k low bits sigs codes values c.requires.numbers values_are c.offset_width-low.ensures.value (twins c.in-Twins.first c.in-Twins.second) both.0;
      kinds = tt;
    }))

pub returns : goal.returns
returns c =
    let sigs = c.args.sigs.now in
    let k = c.args.log_bucket in
    let codes = c.args.codes.now.codes.items in
    let bits = c.args.codes.now.bits in
    let low = c.offset_width-low.result in
    let values = c.deref-2.result.now in
    let values_are : values ≡ length_numbers (2 ^ k) codes = c.deref-2.ensures.value ∙ c.in_ok-numbers.ensures ∙ ap (length_numbers (2 ^ k)) c.deref.ensures.value in
    let both = subst (AreBoth 64 low k bits sigs values) c.in-Stuck.is c.in_ok-low.ensures in
    subst (StopsKeyFunctions Mwhc sigs (offset_numbers (2 ^ k) (length sigs)) codes) (sym c.failed-in-Stuck.ensures)
    (inl (record {
      part = refl;
      cause = first_cause k low bits sigs codes values c.requires.numbers values_are c.offset_width-low.ensures.value (stuck c.in-Stuck.chunk (map witness_numbers c.in-Stuck.witnesses.items)) both.0.0;
      kinds = both.0.1;
    }))
