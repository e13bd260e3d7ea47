use Rattle.std.proofs.Common.{◌≡◌, ◌∙◌, ◌<◌, ◌+◌, ◌-◌, ◌*◌, ◌^◌, ◌++◌, ◌∷◌, [], None, length, get_or, ap, sym, arith, suc, true}
use Rattle.std.specs.Prelude.{unwrap_or}
use Rattle.sx_spec.specs.Fields.{words_number, ones_of}
use Rattle.sx_fields.proofs.Padding.{words_at}
use Rattle.sx_ranksel.specs.Directory.{rank_of}
use Rattle.sx_ranksel.proofs.Ranks.{rank_le, rank_more}
use Rattle.sx_ef.specs.Parts.{sums_of, never_falls, is_sums_of}
use Rattle.sx_ef.proofs.Numbers.{last_of, last_pushed, keeps_pushed}
use Rattle.sx_ef.proofs.Scan.{bit_none, bit_one, ones_none, number_one, wide_number, spoilt_low, spoilt_many}
use Rattle.sx_ef.proofs.check.are_sums_counted.Goals as goal

pub loop-place-preserved-then-upper-place-eq0 : goal.loop-place-preserved-then-upper-place-eq0
loop-place-preserved-then-upper-place-eq0 g c =
    let words = c.args.upper.now in
    let x = words_number words in
    let l = g.F.Fields.bits c.args.low.now in
    let lows = g.F.Fields.items c.args.low.now in
    let h = c.loop-place.invariant in
    let none = bit_none words c.loop-place.place (words_at words c.type_inv.upper) c.if-upper-place-eq0.true in
    let same = ones_none x c.loop-place.place none in
    record {
      seen = h.seen ∙ ap length (sym same);
      few = h.few;
      keeps = ap (λ os. never_falls (sums_of l os lows)) same ∙ h.keeps;
      last = h.last ∙ ap (λ os. last_of (sums_of l os lows)) (sym same);
      small = h.small;
    }

pub returns-then-seen-count : goal.returns-then-seen-count
returns-then-seen-count g c =
    let words = c.args.upper.now in
    let x = words_number words in
    let l = g.F.Fields.bits c.args.low.now in
    let lows = g.F.Fields.items c.args.low.now in
    let one = bit_one words c.loop-place.place (words_at words c.type_inv.upper) c.if-upper-place-eq0.false in
    let all : c.loop-place.seen ≡ length lows = c.if-seen-count.true ∙ c.len-count.ensures in
    sym (ap (λ n. is_sums_of n c.args.below l (ones_of c.args.bits x) lows) (sym all)
    ∙ spoilt_many x c.loop-place.place c.args.bits l c.loop-place.seen c.args.below lows c.loop-place-test.true c.loop-place.invariant.seen one)

pub overflow_sub-place : goal.overflow_sub-place
overflow_sub-place g c =
    let few = rank_le c.loop-place.place (words_number c.args.upper.now) in
    omega (arith, c.loop-place.invariant.seen)

pub returns-then-number-previous : goal.returns-then-number-previous
returns-then-number-previous g c =
    let words = c.args.upper.now in
    let x = words_number words in
    let l = g.F.Fields.bits c.args.low.now in
    let lows = g.F.Fields.items c.args.low.now in
    let place = c.loop-place.place in
    let seen = c.loop-place.seen in
    let h = c.loop-place.invariant in
    let one = bit_one words place (words_at words c.type_inv.upper) c.if-upper-place-eq0.false in
    let fits : seen < length lows = let differ = c.if-seen-count.false in let size = c.len-count.ensures in omega (arith, h.few) in
    let wide = wide_number place seen c.width-width.result l c.from.result c.get.result c.from-in-loop-place.result (get_or lows seen 0) (omega (arith, c.requires.few)) c.requires.narrow c.get.type_inv c.from.ensures c.width-width.ensures.width c.from-in-loop-place.ensures (sym c.get.ensures.value) in
    let less = c.if-number-previous.true in
    sym (spoilt_low x place c.args.bits l seen (length lows) c.args.below lows c.loop-place-test.true h.seen fits one (omega (arith, h.last, wide.0)))

pub loop-place-preserved : goal.loop-place-preserved
loop-place-preserved g c =
    let words = c.args.upper.now in
    let x = words_number words in
    let l = g.F.Fields.bits c.args.low.now in
    let lows = g.F.Fields.items c.args.low.now in
    let place = c.loop-place.place in
    let seen = c.loop-place.seen in
    let h = c.loop-place.invariant in
    let one = bit_one words place (words_at words c.type_inv.upper) c.if-upper-place-eq0.false in
    let fits : seen < length lows = let differ = c.if-seen-count.false in let size = c.len-count.ensures in omega (arith, h.few) in
    let wide = wide_number place seen c.width-width.result l c.from.result c.get.result c.from-in-loop-place.result (get_or lows seen 0) (omega (arith, c.requires.few)) c.requires.narrow c.get.type_inv c.from.ensures c.width-width.ensures.width c.from-in-loop-place.ensures (sym c.get.ensures.value) in
    let numbers = sums_of l (ones_of place x) lows in
    let y = (place - seen) * 2 ^ l + get_or lows seen 0 in
    let pushed = number_one x place l seen lows h.seen fits one in
    let more = rank_more x place in
    let e : place + 1 ≡ suc place = omega arith in
    let count = ap (λ n. rank_of n x) e in
    let above = c.if-number-previous.false in
    let keeps : never_falls (numbers ++ y ∷ []) ≡ true = keeps_pushed numbers y h.keeps (omega (arith, h.last, wide.0)) in
    let last : last_of (numbers ++ y ∷ []) ≡ y = ap (λ o. unwrap_or o 0) (last_pushed None numbers y) in
    record {
      seen = omega (arith, h.seen);
      few = omega arith;
      keeps = ap never_falls pushed ∙ keeps;
      last = wide.0 ∙ sym last ∙ sym (ap last_of pushed);
      small = wide.1;
    }
