use Rattle.std.proofs.Common.{◌≡◌, ◌-◌, ◌<◌, ℕ, length, get_or, sym, ap, subst, ◌∙◌, arith}
use Rattle.std.specs.Prelude.{bit_xor}
use Rattle.sx_solve.specs.declared.rows.Row.{Row}
use Rattle.sx_solve.specs.Rows.{bit, xor_by, Meets}
use Rattle.sx_solve.proofs.Filled.{one_more_met, still_narrow}
use Rattle.sx_solve.proofs.cells.fill.Goals as goal

pub loop-k-preserved : goal.loop-k-preserved
loop-k-preserved c =
    let rows = c.args.rows.now in
    let cells = c.loop-k.cells in
    let k = c.loop-k.k - 1 in
    let r = c.index-rows-k.result in
    let inside : k < length rows = omega arith in
    let pivot : r.pivot < length cells =
    rw c.loop-k.auto.cells (subst (λ (s : Row). s.pivot < length c.args.cells.now) (sym c.index-rows-k.is) (c.requires.pivots k r inside)) in
    let delta = bit_xor r.value c.xor_of-rest.result in
    let is : delta ≡ bit_xor r.value (xor_by (bit r.unknowns.items) 0 cells) =
    ap (bit_xor r.value) (c.xor_of-rest.ensures ∙ ap (λ ws. xor_by (bit ws) 0 cells) c.deref.ensures.value) in
    let later : (j : ℕ) (e : Row) → k < j → j < length rows → Meets cells (get_or rows j e) = λ j e after within. c.loop-k.invariant.met j e (omega arith) within in
    record {
      met = one_more_met rows c.requires.steps cells k r inside c.index-rows-k.is pivot delta is later;
      narrow = λ n narrow_rows start. still_narrow rows c.requires.steps cells k r inside c.index-rows-k.is pivot delta n is narrow_rows (c.loop-k.invariant.narrow n narrow_rows start);
    }
