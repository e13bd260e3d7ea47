use Rattle.std.proofs.Common.{Bool, sym, ap, ap₂, ◌∙◌, arith}
use Rattle.std.specs.Prelude.{if◌then◌else◌}
use Rattle.std.specs.declared.cmp.Ordering.TheVariants.{Less, Greater}
use Rattle.std.specs.Ordering.{nat_cmp}
use Rattle.sx_bits.specs.Views.{bits_of}
use Rattle.sx_bits.proofs.Prefixes.{parted_by, order_ended}
use Rattle.sx_bits.proofs.view.BitView.order.Goals as goal

pub returns-then-bit : goal.returns-then-bit
returns-then-bit c =
    let x = bits_of c.args.self.now in
    let y = bits_of c.args.other.now in
    let lx = c.len.ensures.value in
    let ly = c.len-2.ensures.value in
    ap (λ (b : Bool). if b then Less else Greater) (sym c.if-bit.true)
    ∙ parted_by x y c.lcp-common.result c.bit.result c.lcp-common.ensures.value (omega arith) (omega arith) c.bit.ensures

pub returns-then-common-min : goal.returns-then-common-min
returns-then-common-min c =
    let x = bits_of c.args.self.now in
    let y = bits_of c.args.other.now in
    let lx = c.len.ensures.value in
    let ly = c.len-2.ensures.value in
    ap (λ (b : Bool). if b then Less else Greater) (sym c.if-bit.false)
    ∙ parted_by x y c.lcp-common.result c.bit.result c.lcp-common.ensures.value (omega arith) (omega arith) c.bit.ensures

pub returns : goal.returns
returns c =
    let x = bits_of c.args.self.now in
    let y = bits_of c.args.other.now in
    let lx = c.len.ensures.value in
    let ly = c.len-2.ensures.value in
    let common = c.lcp-common.ensures.value in
    c.cmp.ensures ∙ ap₂ nat_cmp c.len-3.ensures.value c.len-4.ensures.value
    ∙ order_ended x y (λ a b. absurd (omega arith))
