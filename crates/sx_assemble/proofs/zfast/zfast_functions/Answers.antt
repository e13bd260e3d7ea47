use Rattle.std.proofs.Common.{◌≡◌, ◌∙◌, ℕ, List, [], Ok, Err, length, map, ap, subst, sym, arith}
use Rattle.std.specs.List.{AllByRecursion}
use Rattle.std.proofs.lemmas.List.{length-map}
use Rattle.std.proofs.lemmas.Result.{err_from_is_err_and}
use Rattle.sx_spec_strings.specs.Bits.{Bits, key_bits}
use Rattle.sx_spec_kinds.specs.Zfast.{code_of}
use Rattle.sx_spec.specs.declared.Signature.{Signature}
use Rattle.sx_spec.specs.Parts.{parts_of}
use Rattle.sx_bits.specs.declared.pieces.Piece.{Piece}
use Rattle.sx_bits.specs.Pieces.{IsPiece, piece_string}
use Rattle.sx_parts.specs.Assembling.{key_signature}
use Rattle.sx_parts.specs.Sectioning.{StopsParts}
use Rattle.sx_parts.proofs.SignedEnds.{few_signatures}
use Rattle.sx_assemble.specs.Handling.{AreFunctions, delimiters_for, handles_for}
use Rattle.sx_assemble.proofs.ZfastDumps.{codes_built, leaves_by, offsets_built, stops_codes, stops_handles, stops_offsets, strings_few}
use Rattle.sx_assemble.proofs.zfast.zfast_functions.Goals as goal

pub offsets_function-requires-clause-few : goal.offsets_function-requires-clause-few
offsets_function-requires-clause-few c =
    let few = few_signatures c.args.keys.now c.requires.keys c.args.seed c.args.plan.now.sig_bits c.args.sigs.now c.requires.signed in
    omega arith

pub handles_buf-requires-clause-few : goal.handles_buf-requires-clause-few
handles_buf-requires-clause-few c =
    let lines = c.args.keys.now.lines in
    let few = strings_few c.args.plan.now c.args.keys.now c.args.seed c.requires.plan c.requires.keys in
    let count : length c.args.parts.now.handles.items ≡ length (handles_for c.args.plan.now lines) = sym (length-map c.args.parts.now.handles.items (piece_string lines)) ∙ ap (λ (l : List Bits). length l) c.requires.parts.handles in
    let same = ap (λ (l : List Piece). length l) c.deref.ensures.value in
    omega arith

pub handles_buf-requires-clause-pieces : goal.handles_buf-requires-clause-pieces
handles_buf-requires-clause-pieces c = subst (AllByRecursion (IsPiece c.args.keys.now.lines)) (sym c.deref.ensures.value) c.requires.parts.pieces

pub handles_buf-requires-clause-strings : goal.handles_buf-requires-clause-strings
handles_buf-requires-clause-strings c = ap (map (piece_string c.args.keys.now.lines)) c.deref.ensures.value ∙ c.requires.parts.handles

pub codes_function-requires-clause-codes : goal.codes_function-requires-clause-codes
codes_function-requires-clause-codes c =
    let lines = c.args.keys.now.lines in
    ap (λ (l : List ℕ). length l) (c.deref-2.ensures.value ∙ c.requires.parts.codes)
    ∙ length-map (map key_bits lines) (code_of (delimiters_for c.args.plan.now lines))
    ∙ length-map lines key_bits
    ∙ sym (length-map lines (key_signature c.args.seed c.args.plan.now.sig_bits))
    ∙ sym (ap (λ (l : List Signature). length l) c.requires.signed)

pub codes_function-requires-clause-few : goal.codes_function-requires-clause-few
codes_function-requires-clause-few c =
    let few = few_signatures c.args.keys.now c.requires.keys c.args.seed c.args.plan.now.sig_bits c.args.sigs.now c.requires.signed in
    omega arith

pub returns-in_err-offsets : goal.returns-in_err-offsets
returns-in_err-offsets c =
    let lines = c.args.keys.now.lines in
    let plan = c.args.plan.now in
    let e = c.in_err-offsets.field-0.0 in
    leaves_by (AreFunctions plan lines c.args.seed) (StopsParts plan c.args.seed (parts_of plan 0 lines [])) c.from_residual.result e
    (err_from_is_err_and c.from_residual.result c.from_residual.ensures.1)
    (stops_offsets plan lines c.args.seed c.requires.plan e (offsets_built plan lines c.args.seed c.args.sigs.now c.requires.signed (Err e) c.in_err-offsets.ensures.built))

pub returns-in_err-handles : goal.returns-in_err-handles
returns-in_err-handles c =
    let lines = c.args.keys.now.lines in
    let plan = c.args.plan.now in
    let e = c.in_err-handles.field-0.0 in
    leaves_by (AreFunctions plan lines c.args.seed) (StopsParts plan c.args.seed (parts_of plan 0 lines [])) c.from_residual-in_err-handles.result e
    (err_from_is_err_and c.from_residual-in_err-handles.result c.from_residual-in_err-handles.ensures.1)
    (stops_handles plan lines c.args.seed c.requires.plan c.in_ok-offsets.offsets e (offsets_built plan lines c.args.seed c.args.sigs.now c.requires.signed (Ok c.in_ok-offsets.offsets) c.in_ok-offsets.ensures.built) c.in_err-handles.ensures)

pub returns-in_err-codes : goal.returns-in_err-codes
returns-in_err-codes c =
    let lines = c.args.keys.now.lines in
    let plan = c.args.plan.now in
    let e = c.in_err-codes.field-0.0 in
    leaves_by (AreFunctions plan lines c.args.seed) (StopsParts plan c.args.seed (parts_of plan 0 lines [])) c.from_residual-in_err-codes.result e
    (err_from_is_err_and c.from_residual-in_err-codes.result c.from_residual-in_err-codes.ensures.1)
    (stops_codes plan lines c.args.seed c.requires.plan c.in_ok-offsets.offsets c.in_ok-handles.handles.function e
    (offsets_built plan lines c.args.seed c.args.sigs.now c.requires.signed (Ok c.in_ok-offsets.offsets) c.in_ok-offsets.ensures.built)
    c.in_ok-handles.ensures.function
    (codes_built plan lines c.args.seed c.args.sigs.now c.deref-2.result.now c.requires.signed (c.deref-2.ensures.value ∙ c.requires.parts.codes) (Err e) c.in_err-codes.ensures.built))

pub returns : goal.returns
returns c =
    let lines = c.args.keys.now.lines in
    let plan = c.args.plan.now in
    record {
      offsets = offsets_built plan lines c.args.seed c.args.sigs.now c.requires.signed (Ok c.in_ok-offsets.offsets) c.in_ok-offsets.ensures.built;
      thin_offsets = c.in_ok-offsets.ensures.narrow;
      handles = c.in_ok-handles.ensures;
      codes = codes_built plan lines c.args.seed c.args.sigs.now c.deref-2.result.now c.requires.signed (c.deref-2.ensures.value ∙ c.requires.parts.codes) (Ok c.in_ok-codes.codes) c.in_ok-codes.ensures.built;
      thin_codes = c.in_ok-codes.ensures.narrow;
    }
