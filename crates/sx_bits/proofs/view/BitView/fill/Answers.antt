use Rattle.std.proofs.Common.{◌≡◌, ℕ, ◌^◌, List, get_or, ◌-◌, ◌*◌, ◌/◌, ◌%◌, ◌≤◌, ◌++◌, sym, ap, ◌∙◌, arith, length, set, take, drop}
use Rattle.std.specs.Prelude.{min}
use Rattle.std.specs.Int.{div_ceil}
use Rattle.std.proofs.lemmas.List.{length-append, length-take, length-drop, get_or_append_left, length-set, set-append_left, take_at}
use Rattle.sx_bits.specs.Views.{bits_of}
use Rattle.sx_bits.proofs.ViewBits.{length-bits_of}
use Rattle.sx_bits.proofs.PackedPieces.{piece, length-piece, full_piece, partial_piece}
use Rattle.sx_bits.proofs.view.BitView.fill.Goals as goal

pub overflow_add-start : goal.overflow_add-start
overflow_add-start c =
    let v = c.args.self.now in
    let long = length-bits_of v in
    let a = v.ordered in
    let b = v.within in
    let d = v.short in
    omega arith

pub overflow_sub-self : goal.overflow_sub-self
overflow_sub-self c =
    let v = c.args.self.now in
    let long = length-bits_of v in
    let a = v.ordered in
    omega arith

pub copy_window-requires-clause-near : goal.copy_window-requires-clause-near
copy_window-requires-clause-near c =
    let v = c.args.self.now in
    let long = length-bits_of v in
    let a = v.ordered in
    let b = v.within in
    let d = v.short in
    omega arith

pub returns-then-count-gt0-clause-count : goal.returns-then-count-gt0-clause-count
returns-then-count-gt0-clause-count c =
    let v = c.args.self.now in
    let long = length-bits_of v in
    let e : c.min-count.result ≡ min 512 (length (bits_of v) - c.args.from) = omega arith in
    c.div_ceil-used.ensures ∙ ap (λ n. div_ceil n 8) e

pub returns-else-count-gt0-clause-count : goal.returns-else-count-gt0-clause-count
returns-else-count-gt0-clause-count c =
    let v = c.args.self.now in
    let long = length-bits_of v in
    let e : c.min-count.result ≡ min 512 (length (bits_of v) - c.args.from) = omega arith in
    c.div_ceil-used.ensures ∙ ap (λ n. div_ceil n 8) e

-- how much of the buffer is filled
filled_length : (out buf : List ℕ) (used : ℕ) → length out ≡ length (take used buf) → length (out ++ drop used buf) ≡ 64 → used ≤ 64 → length out ≡ used
filled_length out buf used kept whole few =
    let a = length-take used buf in
    let b = length-append out (drop used buf) in
    let d = length-drop used buf in
    omega arith

pub returns-then-count-gt0-clause-packed : goal.returns-then-count-gt0-clause-packed
returns-then-count-gt0-clause-packed c =
    let v = c.args.self.now in
    let buf = c.args.buf.now in
    let out = c.copy_window.new.out in
    let used = c.div_ceil-used.result in
    let last = c.clear_low.result in
    let long = length-piece v c.args.from in
    let same : c.min-count.result ≡ length (piece v c.args.from) = omega arith in
    let whole : length (out ++ drop used buf) ≡ 64 = sym (length-set (out ++ drop used buf) (used - 1) last) ∙ c.clear_low.array_long in
    let filled : length out ≡ used = filled_length out buf used c.copy_window.auto.out whole (omega arith) in
    let n : used - 1 ≡ length out - 1 = omega arith in
    let unused : 8 - c.min-count.result % 8 ≡ 8 - length (piece v c.args.from) % 8 = omega arith in
    let read : get_or (out ++ drop used buf) (used - 1) 0 ≡ get_or out (length out - 1) 0 =
    get_or_append_left out (drop used buf) 0 (used - 1) (omega arith) ∙ ap (λ m. get_or out m 0) n in
    ap (take used) (set-append_left out (drop used buf) (used - 1) last (omega arith))
    ∙ take_at (set out (used - 1) last) (drop used buf) used (length-set out (used - 1) last ∙ filled)
    ∙ ap (λ m. set out m last) n
    ∙ partial_piece v c.args.from out last c.copy_window.ensures.bytes (filled ∙ c.div_ceil-used.ensures ∙ ap (λ m. div_ceil m 8) same)
    (omega arith) c.copy_window.ensures.window
    (c.clear_low.ensures ∙ ap (λ m. m / 2 ^ (8 - c.min-count.result % 8) * 2 ^ (8 - c.min-count.result % 8)) read
    ∙ ap (λ u. get_or out (length out - 1) 0 / 2 ^ u * 2 ^ u) unused)

pub returns-else-count-gt0-clause-packed : goal.returns-else-count-gt0-clause-packed
returns-else-count-gt0-clause-packed c =
    let v = c.args.self.now in
    let buf = c.args.buf.now in
    let out = c.copy_window.new.out in
    let used = c.div_ceil-used.result in
    let long = length-piece v c.args.from in
    let same : c.min-count.result ≡ length (piece v c.args.from) = omega arith in
    let filled : length out ≡ used = filled_length out buf used c.copy_window.auto.out c.if-count-gt0.array_long (omega arith) in
    take_at out (drop used buf) used filled
    ∙ full_piece v c.args.from out c.copy_window.ensures.bytes (filled ∙ c.div_ceil-used.ensures ∙ ap (λ m. div_ceil m 8) same)
    (omega arith) c.copy_window.ensures.window
