use Rattle.std.proofs.Common.{◌∙◌, sym, arith}
use Rattle.sx_bits.proofs.Windows.{aligned_window, shifted_window}
use Rattle.sx_bits.proofs.packing.copy_window.Goals as goal

pub returns-then-start-eq0-clause-window : goal.returns-then-start-eq0-clause-window
returns-then-start-eq0-clause-window c = λ k lt. c.copy_bytes.ensures k lt ∙ sym (aligned_window c.args.line.now c.args.start k (λ i. omega (arith, c.type_inv.line i)) (omega arith))

pub returns-else-start-eq0-clause-window : goal.returns-else-start-eq0-clause-window
returns-else-start-eq0-clause-window c = λ k lt. c.shift_bytes.ensures k lt ∙ sym (shifted_window c.args.line.now c.args.start k (λ i. omega (arith, c.type_inv.line i)))

pub returns-then-start-eq0-clause-bytes : goal.returns-then-start-eq0-clause-bytes
returns-then-start-eq0-clause-bytes c = λ i. omega (arith, c.type_inv.line i)

pub returns-else-start-eq0-clause-bytes : goal.returns-else-start-eq0-clause-bytes
returns-else-start-eq0-clause-bytes c = λ i. omega (arith, c.type_inv.line i)
