use Rattle.std.proofs.Common.{◌≡◌, ◌+◌, ◌-◌, ◌*◌, ◌/◌, ◌<◌, ◌≤◌, ◌^◌, ℕ, List, codes, drop, get_or, ap, sym, subst, refl, arith, rules, ◌∙◌}
use Rattle.sx_spec.specs.Fields.{fields, low_width, upper_bits, words_for}
use Rattle.sx_ef.proofs.Widths.{upper_few}
use Rattle.sx_ef.specs.Parts.{low_size}
use Rattle.sx_sections.specs.Lines.{entry_line}
use Rattle.sx_dump.specs.Showing.{sums_read}
use Rattle.sx_dump.proofs.Showing.{at_exit, read_at, shown_none, turn_cut, turn_shown, turns_shown}
use Rattle.sx_dump.proofs.SumsOnes.{number_put, one_at, read_count, seen_all, seen_few, seen_le, seen_more, seen_same, within, zero_at}
use Rattle.sx_dump.proofs.show.show_sums_items.Goals as goal

pub new-low-requires-clause-within : goal.new-low-requires-clause-within
new-low-requires-clause-within g c =
    let s = c.args.sums.now in
    let size : words_for (s.count * c.low_bits-width.result) ≡ low_size s.count s.below = ap (λ (w : ℕ). words_for (s.count * w)) c.low_bits-width.ensures.width in
    let fits = within (g.B.WordBank.words_of c.args.bank) s c.requires in
    omega (arith, size, fits)

pub overflow_add-upper : goal.overflow_add-upper
overflow_add-upper g c =
    let s = c.args.sums.now in
    let start : c.div_ceil.result ≡ low_size s.count s.below = c.div_ceil.ensures ∙ (λ j. words_for (s.count * (c.from.ensures ∙ c.low_bits-width.ensures.width) j)) in
    let fits = within (g.B.WordBank.words_of c.args.bank) s c.requires in
    omega (arith, start, fits, c.words-words.ensures.len, c.words-words.type_inv)

pub overflow_add-bit-end : goal.overflow_add-bit-end
overflow_add-bit-end g c =
    let s = c.args.sums.now in
    let few = subst (λ (w : ℕ). s.count + (s.below - 1) / 2 ^ w < 3 * s.count) (sym c.low_bits-width.ensures.width) (upper_few s.count s.below c.requires.some c.requires.above) in
    omega (arith, c.requires.few, few)

pub bits-init : goal.bits-init
bits-init g c = record {
  seen = refl;
  shown = shown_none (g.O.Sink.written c.args.out.now) c.args.page.now.bytes;
  calm = refl;
  counted = omega arith;
}

pub is_one-requires-clause-within : goal.is_one-requires-clause-within
is_one-requires-clause-within g c =
    let s = c.args.sums.now in
    let start : c.div_ceil.result ≡ low_size s.count s.below = c.div_ceil.ensures ∙ (λ j. words_for (s.count * (c.from.ensures ∙ c.low_bits-width.ensures.width) j)) in
    let inside : c.bits.bit < upper_bits s.count s.below = subst (λ (w : ℕ). c.bits.bit < s.count + (s.below - 1) / 2 ^ w) c.low_bits-width.ensures.width c.bits-test.true in
    let fits = within (g.B.WordBank.words_of c.args.bank) s c.requires in
    omega (arith, start, inside, fits)

pub is_one-requires-clause-long : goal.is_one-requires-clause-long
is_one-requires-clause-long g c = omega (arith, c.words-words.ensures.len, c.words-words.type_inv)

pub bits-preserved-then-not-is_one : goal.bits-preserved-then-not-is_one
bits-preserved-then-not-is_one g c =
    let words = g.B.WordBank.words_of c.args.bank in
    let s = c.args.sums.now in
    let h = c.bits.invariant in
    let start : c.div_ceil.result ≡ low_size s.count s.below = c.div_ceil.ensures ∙ (λ j. words_for (s.count * (c.from.ensures ∙ c.low_bits-width.ensures.width) j)) in
    let zero = zero_at words s c.requires (s.body + c.div_ceil.result) c.bits.bit c.is_one.result (ap (λ (n : ℕ). s.body + n) start) c.is_one.ensures.value c.if-not-is_one.true in
    record {
      seen = seen_same words s c.requires c.bits.bit c.bits.i h.seen zero;
      shown = h.shown;
      calm = h.calm;
      counted = omega (arith, h.counted, c.is_one.ensures.counted);
    }

pub overflow_sub-high : goal.overflow_sub-high
overflow_sub-high g c =
    let words = g.B.WordBank.words_of c.args.bank in
    let s = c.args.sums.now in
    let h = c.bits.invariant in
    let start : c.div_ceil.result ≡ low_size s.count s.below = c.div_ceil.ensures ∙ (λ j. words_for (s.count * (c.from.ensures ∙ c.low_bits-width.ensures.width) j)) in
    let inside : c.bits.bit < upper_bits s.count s.below = subst (λ (w : ℕ). c.bits.bit < s.count + (s.below - 1) / 2 ^ w) c.low_bits-width.ensures.width c.bits-test.true in
    let one = one_at words s c.requires (s.body + c.div_ceil.result) c.bits.bit c.is_one.result (ap (λ (n : ℕ). s.body + n) start) c.is_one.ensures.value c.if-not-is_one.false in
    let le = seen_le words s c.requires c.bits.bit c.bits.i inside h.seen one in
    omega (arith, le)

pub read-requires : goal.read-requires
read-requires g c =
    let words = g.B.WordBank.words_of c.args.bank in
    let s = c.args.sums.now in
    let h = c.bits.invariant in
    let start : c.div_ceil.result ≡ low_size s.count s.below = c.div_ceil.ensures ∙ (λ j. words_for (s.count * (c.from.ensures ∙ c.low_bits-width.ensures.width) j)) in
    let inside : c.bits.bit < upper_bits s.count s.below = subst (λ (w : ℕ). c.bits.bit < s.count + (s.below - 1) / 2 ^ w) c.low_bits-width.ensures.width c.bits-test.true in
    let one = one_at words s c.requires (s.body + c.div_ceil.result) c.bits.bit c.is_one.result (ap (λ (n : ℕ). s.body + n) start) c.is_one.ensures.value c.if-not-is_one.false in
    let few = seen_few words s c.requires c.bits.bit c.bits.i inside h.seen one in
    omega (arith, few, c.new-low.ensures.len)

pub overflow_add-high : goal.overflow_add-high
overflow_add-high g c =
    let words = g.B.WordBank.words_of c.args.bank in
    let s = c.args.sums.now in
    let h = c.bits.invariant in
    let width = c.low_bits-width.ensures.width in
    let start : c.div_ceil.result ≡ low_size s.count s.below = c.div_ceil.ensures ∙ (λ j. words_for (s.count * (c.from.ensures ∙ width) j)) in
    let inside : c.bits.bit < upper_bits s.count s.below = subst (λ (w : ℕ). c.bits.bit < s.count + (s.below - 1) / 2 ^ w) width c.bits-test.true in
    let one = one_at words s c.requires (s.body + c.div_ceil.result) c.bits.bit c.is_one.result (ap (λ (n : ℕ). s.body + n) start) c.is_one.ensures.value c.if-not-is_one.false in
    let low : c.read.result ≡ get_or (fields (low_width s.count s.below) s.count (drop s.body words)) c.bits.i 0 =
    c.read.ensures.value ∙ ap (λ (xs : List ℕ). get_or xs c.bits.i 0) (c.new-low.ensures.items ∙ ap (λ (w : ℕ). fields w s.count (drop s.body words)) width) in
    let small : s.below < 2 ^ 64 = search rules in
    let put = number_put words s c.requires c.bits.bit c.bits.i inside h.seen one small c.low_bits-width.result (c.bits.bit - c.bits.i) c.read.result width refl low in
    omega (arith, put.1)

pub overflow_add-i : goal.overflow_add-i
overflow_add-i g c =
    let words = g.B.WordBank.words_of c.args.bank in
    let s = c.args.sums.now in
    let h = c.bits.invariant in
    let start : c.div_ceil.result ≡ low_size s.count s.below = c.div_ceil.ensures ∙ (λ j. words_for (s.count * (c.from.ensures ∙ c.low_bits-width.ensures.width) j)) in
    let inside : c.bits.bit < upper_bits s.count s.below = subst (λ (w : ℕ). c.bits.bit < s.count + (s.below - 1) / 2 ^ w) c.low_bits-width.ensures.width c.bits-test.true in
    let one = one_at words s c.requires (s.body + c.div_ceil.result) c.bits.bit c.is_one.result (ap (λ (n : ℕ). s.body + n) start) c.is_one.ensures.value c.if-not-is_one.false in
    let few = seen_few words s c.requires c.bits.bit c.bits.i inside h.seen one in
    omega (arith, few, c.requires.few)

pub bits-preserved : goal.bits-preserved
bits-preserved g c =
    let words = g.B.WordBank.words_of c.args.bank in
    let s = c.args.sums.now in
    let h = c.bits.invariant in
    let width = c.low_bits-width.ensures.width in
    let start : c.div_ceil.result ≡ low_size s.count s.below = c.div_ceil.ensures ∙ (λ j. words_for (s.count * (c.from.ensures ∙ width) j)) in
    let inside : c.bits.bit < upper_bits s.count s.below = subst (λ (w : ℕ). c.bits.bit < s.count + (s.below - 1) / 2 ^ w) width c.bits-test.true in
    let one = one_at words s c.requires (s.body + c.div_ceil.result) c.bits.bit c.is_one.result (ap (λ (n : ℕ). s.body + n) start) c.is_one.ensures.value c.if-not-is_one.false in
    let low : c.read.result ≡ get_or (fields (low_width s.count s.below) s.count (drop s.body words)) c.bits.i 0 =
    c.read.ensures.value ∙ ap (λ (xs : List ℕ). get_or xs c.bits.i 0) (c.new-low.ensures.items ∙ ap (λ (w : ℕ). fields w s.count (drop s.body words)) width) in
    let small : s.below < 2 ^ 64 = search rules in
    let put = number_put words s c.requires c.bits.bit c.bits.i inside h.seen one small c.low_bits-width.result (c.bits.bit - c.bits.i) c.read.result width refl low in
    let few = seen_few words s c.requires c.bits.bit c.bits.i inside h.seen one in
    let count = read_count words s c.requires in
    let items = sums_read words s in
    record {
      seen = seen_more words s c.requires c.bits.bit c.bits.i inside h.seen one;
      shown = turn_shown (λ p. entry_line (codes "item") p.0 p.1) c.args.page.now.bytes items c.bits.i (g.O.Sink.written c.args.out.now) (g.O.Sink.written c.bits.out) (g.O.Sink.written c.make_room.new.out) _
          c.bits.page.bytes c.make_room.new.page.bytes c.put_entry.new.page.bytes h.shown c.in_ok-make_room.ensures.ok c.put_entry.ensures (read_at items c.bits.i _ (omega (arith, few, count)) put.0);
      calm = c.in_ok-make_room.ensures.cause.calm ∙ h.calm;
      counted = omega (arith, h.counted, c.is_one.ensures.counted, c.read.ensures.counted);
    }

pub returns-in_err-make_room-clause-failed : goal.returns-in_err-make_room-clause-failed
returns-in_err-make_room-clause-failed g c =
    let items = sums_read (g.B.WordBank.words_of c.args.bank) c.args.sums.now in
    at_exit c.from_residual.result
    (turn_cut (λ p. entry_line (codes "item") p.0 p.1) c.args.page.now.bytes items c.bits.i (g.O.Sink.written c.args.out.now) (g.O.Sink.written c.bits.out) (g.O.Sink.written c.make_room.new.out)
    c.bits.page.bytes c.bits.invariant.shown c.in_err-make_room.ensures.failed)

pub returns-clause-ok : goal.returns-clause-ok
returns-clause-ok g c =
    let words = g.B.WordBank.words_of c.args.bank in
    let s = c.args.sums.now in
    let behind : upper_bits s.count s.below ≤ c.bits.bit = subst (λ (w : ℕ). s.count + (s.below - 1) / 2 ^ w ≤ c.bits.bit) c.low_bits-width.ensures.width (omega (arith, c.bits-test.false)) in
    turns_shown (λ p. entry_line (codes "item") p.0 p.1) c.args.page.now.bytes (sums_read words s) c.bits.i (g.O.Sink.written c.args.out.now) (g.O.Sink.written c.bits.out) c.bits.page.bytes
    (seen_all words s c.requires c.bits.bit c.bits.i behind c.bits.invariant.seen) c.bits.invariant.shown
