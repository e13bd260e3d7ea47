use Rattle.std.proofs.Common.{refl}
use Rattle.std.specs.Prelude.{bit_xor}
use Rattle.sx_solve.specs.declared.rows.Row.{Row}
use Rattle.sx_solve.proofs.Sums.{sum_is_row, sum_meets}
use Rattle.sx_solve.proofs.rows.Row.clear.Goals as goal

pub returns-clause-sum : goal.returns-clause-sum
returns-clause-sum c =
    let r = c.args.self.now in
    let s = c.args.row.now in
    let t : Row = record { unknowns = c.add_bits.new.words; set = c.add_bits-2.new.words; value = bit_xor r.value s.value; pivot = r.pivot } in
    λ equations is_s is_r. sum_is_row equations r s t is_r is_s
    (rw c.deref-2.ensures.value at c.add_bits.ensures.bits)
    (rw c.deref-3.ensures.value at c.add_bits-2.ensures.bits) refl

pub returns-clause-meets : goal.returns-clause-meets
returns-clause-meets c =
    let r = c.args.self.now in
    let s = c.args.row.now in
    let t : Row = record { unknowns = c.add_bits.new.words; set = c.add_bits-2.new.words; value = bit_xor r.value s.value; pivot = r.pivot } in
    λ cells met_s met_t. sum_meets cells r s t (rw c.deref-2.ensures.value at c.add_bits.ensures.bits) refl met_s met_t
