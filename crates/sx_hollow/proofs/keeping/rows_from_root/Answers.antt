use Rattle.std.proofs.Common.{List, ℕ, ◌+◌, ◌*◌, ◌≤◌, length, sym, subst, arith}
use Rattle.sx_spec.specs.Reply.{gaps}
use Rattle.sx_hollow.specs.Views.{sums_read}
use Rattle.sx_hollow.proofs.Tops.{AreRows, rows_kept, rows_longer, rows_more}
use Rattle.sx_hollow.proofs.keeping.rows_from_root.Goals as goal

pub loop-place-preserved : goal.loop-place-preserved
loop-place-preserved g c =
    let left = gaps (sums_read c.args.left.now) in
    let skip = gaps (sums_read c.args.skip.now) in
    let before = c.loop-place.invariant.counted in
    let below = c.gap-below.ensures.counted in
    let skipped = c.gap-skipped.ensures.counted in
    record {
      rows = subst (λ (words : List ℕ). AreRows left skip words) (sym c.in_ok-extend_from_slice.ensures.items)
          (rows_more left skip c.loop-place.words.items _ _ _ _ c.loop-place.invariant.rows (omega arith) (omega arith) c.gap-below.ensures.value c.gap-skipped.ensures.value);
      few = subst (λ (words : List ℕ). length words ≤ 2 * (c.loop-place.place + 1)) (sym c.in_ok-extend_from_slice.ensures.items)
          (rows_longer c.loop-place.words.items _ _ c.loop-place.place c.loop-place.invariant.few);
      waiting = c.wait_for_both.ensures.few;
      within = omega arith;
      counted = omega (arith, before, below, skipped);
      cost = let so_far = c.loop-place.invariant.cost in
          let most_below = c.gap-below.ensures.cost in
          let most_skipped = c.gap-skipped.ensures.cost in
          omega (arith, so_far, most_below, most_skipped);
    }

pub returns-clause-kept : goal.returns-clause-kept
returns-clause-kept g c = rows_kept (gaps (sums_read c.args.left.now)) (gaps (sums_read c.args.skip.now)) c.loop-place.words.items c.loop-place.invariant.rows
