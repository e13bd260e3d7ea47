use Rattle.std.proofs.Common.{◌≡◌, ◌∙◌, Ok, Err, ℕ, List, length, ap, sym, arith}
use Rattle.std.specs.List.{range_with_len}
use Rattle.std.proofs.lemmas.List.FromFn.{length-range_with_len}
use Rattle.std.proofs.lemmas.Result.{err_from_is_err_and}
use Rattle.sx_spec_kinds.specs.Pairs.{handles_pairs}
use Rattle.sx_spec.specs.declared.Signature.{Signature}
use Rattle.sx_spec.specs.Parts.{least_width}
use Rattle.sx_spec.specs.StaticFunction.{part_entries}
use Rattle.sx_parts.specs.Sectioning.{StopsPart}
use Rattle.sx_parts.proofs.KeyPairs.{least_of}
use Rattle.sx_assemble.specs.Handling.{AreHandles, delimiters_for, handles_part}
use Rattle.sx_assemble.proofs.ZfastDumps.{handles_are, handles_signed, leaves_by, marks_are}
use Rattle.sx_assemble.proofs.zfast.handles_buf.Goals as goal

pub build_least-requires-clause-numbers : goal.build_least-requires-clause-numbers
build_least-requires-clause-numbers c =
    let long : c.len.result ≡ length c.in_ok-sigs.sigs.items = c.len.ensures ∙ c.in_ok-sigs.sigs.ok.0 in
    ap (λ (l : List ℕ). length l) (c.deref-2.ensures.value ∙ c.in_ok-places.ensures)
    ∙ length-range_with_len 0 c.len.result
    ∙ long
    ∙ sym (ap (λ (l : List Signature). length l) c.deref.ensures.value)

pub returns-in_err-function : goal.returns-in_err-function
returns-in_err-function c =
    let lines = c.args.keys.now.lines in
    let plan = c.args.plan.now in
    let e = c.in_err-function.field-0.0 in
    let long : c.len.result ≡ length c.in_ok-sigs.sigs.items = c.len.ensures ∙ c.in_ok-sigs.sigs.ok.0 in
    let same = ap (λ (l : List Signature). length l) c.deref.ensures.value in
    let signed = handles_signed plan lines c.args.seed c.args.handles.now c.deref.result.now c.requires.strings (c.deref.ensures.value ∙ c.in_ok-sigs.ensures) in
    let are = handles_are plan lines c.args.seed c.deref.result.now c.deref-2.result.now signed (c.deref-2.ensures.value ∙ c.in_ok-places.ensures ∙ ap (range_with_len 0) (long ∙ sym same)) in
    leaves_by (AreHandles plan lines c.args.seed) (StopsPart 1 plan.method (part_entries plan.sig_bits c.args.seed (handles_part plan lines))) c.from_residual-in_err-function.result e
    (err_from_is_err_and c.from_residual-in_err-function.result c.from_residual-in_err-function.ensures.1)
    (least_of plan c.args.seed 1 (handles_pairs (delimiters_for plan lines)) c.deref.result.now c.deref-2.result.now are (Err e) c.in_err-function.ensures.built)

pub returns : goal.returns
returns c =
    let lines = c.args.keys.now.lines in
    let plan = c.args.plan.now in
    let f = c.in_ok-function.function in
    let long : c.len.result ≡ length c.in_ok-sigs.sigs.items = c.len.ensures ∙ c.in_ok-sigs.sigs.ok.0 in
    let same = ap (λ (l : List Signature). length l) c.deref.ensures.value in
    let signed = handles_signed plan lines c.args.seed c.args.handles.now c.deref.result.now c.requires.strings (c.deref.ensures.value ∙ c.in_ok-sigs.ensures) in
    let again = handles_signed plan lines c.args.seed c.args.handles.now c.deref-3.result.now c.requires.strings (c.deref-3.ensures.value ∙ c.in_ok-sigs.ensures) in
    let are = handles_are plan lines c.args.seed c.deref.result.now c.deref-2.result.now signed (c.deref-2.ensures.value ∙ c.in_ok-places.ensures ∙ ap (range_with_len 0) (long ∙ sym same)) in
    let done = least_of plan c.args.seed 1 (handles_pairs (delimiters_for plan lines)) c.deref.result.now c.deref-2.result.now are (Ok f) c.in_ok-function.ensures.built in
    let width = done.built.width in
    let numbers = are.numbers in
    record {
      function = done;
      narrow = (let e = ap (λ (l : List ℕ). least_width l) numbers in let n = c.in_ok-function.ensures.narrow in omega (arith, e, n, width));
      width = c.in_ok-marks.ensures.width;
      items = marks_are plan lines c.args.seed plan.handle_bits c.deref-3.result.now c.in_ok-marks.marks.items again c.in_ok-marks.ensures.items;
    }
