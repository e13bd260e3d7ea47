use Rattle.std.proofs.Common.{ℕ, ◌+◌, ◌-◌, ◌/◌, sym, ◌∙◌, ap, arith}
use Rattle.std.specs.Prelude.{Some}
use Rattle.sx_zfast.specs.Maps.{numbers_read}
use Rattle.sx_zfast.proofs.SignatureOrder.{digit_less, found_beside, goes_down, goes_up, none_beside}
use Rattle.sx_zfast.proofs.corrected.Corrections.lookup.Goals as goal

pub loop-low-preserved-in-Less : goal.loop-low-preserved-in-Less
loop-low-preserved-in-Less g c =
    let v = c.args.self.now in
    let at = c.loop-low in
    let middle = at.low + (at.high - at.low) / 2 in
    let more = c.loop-low-test.true in
    let few = at.invariant.high in
    let spent = at.invariant.cost in
    let so_far = at.invariant.counted in
    let read = c.in-Less.ensures.cost in
    let digit = digit_less (at.high - at.low) (at.high - (middle + 1)) (omega arith) (omega arith) in
    record {
      ordered = omega arith;
      high = few;
      counted = omega arith;
      cost = omega arith;
      between = goes_up (g.B.WordBank.words_of v.bank) v.first v.count c.args.sig.now v.rising at.low at.high middle at.invariant.between (omega arith) (sym c.in-Less.ensures.value);
    }

pub returns-in-Equal-clause-value : goal.returns-in-Equal-clause-value
returns-in-Equal-clause-value g c =
    let v = c.args.self.now in
    let more = c.loop-low-test.true in
    let few = c.loop-low.invariant.high in
    ap (λ (b : ℕ). Some b) c.read.ensures.value
    ∙ found_beside (g.B.WordBank.words_of v.bank) v.first v.count c.args.sig.now v.rising (numbers_read v.blocks) _ v.beside (omega arith) (sym c.in-Equal.ensures.value)

pub returns-in-Equal-clause-cost : goal.returns-in-Equal-clause-cost
returns-in-Equal-clause-cost g c =
    let at = c.loop-low in
    let more = c.loop-low-test.true in
    let spent = at.invariant.cost in
    let read = c.in-Equal.ensures.cost in
    let last = c.read.ensures.cost in
    let digit = digit_less (at.high - at.low) 0 (omega arith) (omega arith) in
    omega arith

pub loop-low-preserved : goal.loop-low-preserved
loop-low-preserved g c =
    let v = c.args.self.now in
    let at = c.loop-low in
    let middle = at.low + (at.high - at.low) / 2 in
    let more = c.loop-low-test.true in
    let few = at.invariant.high in
    let spent = at.invariant.cost in
    let so_far = at.invariant.counted in
    let read = c.in-Greater.ensures.cost in
    let digit = digit_less (at.high - at.low) (middle - at.low) (omega arith) (omega arith) in
    record {
      ordered = omega arith;
      high = omega arith;
      counted = omega arith;
      cost = omega arith;
      between = goes_down (g.B.WordBank.words_of v.bank) v.first v.count c.args.sig.now v.rising at.low at.high middle at.invariant.between (omega arith) (sym c.in-Greater.ensures.value);
    }

pub returns-clause-value : goal.returns-clause-value
returns-clause-value g c =
    let v = c.args.self.now in
    let met = c.loop-low-test.false in
    none_beside (g.B.WordBank.words_of v.bank) v.first v.count c.args.sig.now v.rising (numbers_read v.blocks) c.loop-low.low c.loop-low.high c.loop-low.invariant.between (omega arith)
