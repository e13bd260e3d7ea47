use Rattle.std.proofs.Common.{◌≡◌, ◌+◌, ◌-◌, ℕ, List, length, arith, ap, sym, subst, ◌∙◌}
use Rattle.sx_spec_kinds.specs.declared.Kind.TheVariants.{Hollow}
use Rattle.sx_spec.specs.Layout.{Header, header_of}
use Rattle.sx_spec.specs.Reply.{gaps, numbers_of}
use Rattle.sx_hollow.specs.Tops.{AreKept}
use Rattle.sx_hollow.specs.Views.{sums_read}
use Rattle.sx_dump.specs.Opening.{dump_in}
use Rattle.sx_dump.specs.Viewing.{ReadsSums}
use Rattle.sx_dump.proofs.Sections.{hollow_left, hollow_skip, kind_is, sums_count_there, sums_there}
use Rattle.sx_dump.proofs.view.hollow_view.Goals as goal

pub sums_at-left-requires-clause-sums : goal.sums_at-left-requires-clause-sums
sums_at-left-requires-clause-sums g c =
    let words = g.B.WordBank.words_of c.args.bank in
    let o = c.args.opened.now in
    let is = c.requires.opened in
    let keys = (header_of words).keys in
    sums_there words o.header o.places.items is 0 (keys - 1 + 1) (omega arith) (hollow_left words o.header o.places.items is (kind_is words o.header o.places.items is Hollow c.requires.kind))

pub sums_at-left-requires-clause-made : goal.sums_at-left-requires-clause-made
sums_at-left-requires-clause-made g c = c.requires.rooms.left

pub sums_at-skip-requires-clause-sums : goal.sums_at-skip-requires-clause-sums
sums_at-skip-requires-clause-sums g c =
    let words = g.B.WordBank.words_of c.args.bank in
    let o = c.args.opened.now in
    let is = c.requires.opened in
    let keys = (header_of words).keys in
    sums_there words o.header o.places.items is 1 (keys - 1 + 1) (omega arith) (hollow_skip words o.header o.places.items is (kind_is words o.header o.places.items is Hollow c.requires.kind))

pub sums_at-skip-requires-clause-made : goal.sums_at-skip-requires-clause-made
sums_at-skip-requires-clause-made g c = c.requires.rooms.skip

pub over-requires-clause-left : goal.over-requires-clause-left
over-requires-clause-left g c =
    let words = g.B.WordBank.words_of c.args.bank in
    let o = c.args.opened.now in
    let is = c.requires.opened in
    let head : (header_of words).keys ≡ o.header.keys = ap (λ (h : Header). h.keys) is.header in
    let keys = c.from-keys.ensures in
    let many = ap (λ (xs : List ℕ). length xs) c.sums_at-left.ensures.numbers
    ∙ sums_count_there words o.header o.places.items is 0 _ (hollow_left words o.header o.places.items is (kind_is words o.header o.places.items is Hollow c.requires.kind)) in
    omega (arith, many, head, keys)

pub over-requires-clause-skip : goal.over-requires-clause-skip
over-requires-clause-skip g c =
    let words = g.B.WordBank.words_of c.args.bank in
    let o = c.args.opened.now in
    let is = c.requires.opened in
    let head : (header_of words).keys ≡ o.header.keys = ap (λ (h : Header). h.keys) is.header in
    let keys = c.from-keys.ensures in
    let many = ap (λ (xs : List ℕ). length xs) c.sums_at-skip.ensures.numbers
    ∙ sums_count_there words o.header o.places.items is 1 _ (hollow_skip words o.header o.places.items is (kind_is words o.header o.places.items is Hollow c.requires.kind)) in
    omega (arith, many, head, keys)

pub over-requires-clause-kept : goal.over-requires-clause-kept
over-requires-clause-kept g c =
    let words = g.B.WordBank.words_of c.args.bank in
    let top = g.D.WordBank.words_of c.args.rooms.top in
    subst (λ (xs : List ℕ). AreKept (gaps xs) (gaps (sums_read c.sums_at-skip.result)) top) (sym c.sums_at-left.ensures.numbers)
    (subst (λ (ys : List ℕ). AreKept (gaps (numbers_of (dump_in words) 0)) (gaps ys) top) (sym c.sums_at-skip.ensures.numbers) c.requires.rooms.top)

pub returns : goal.returns
returns g c =
    let words = g.B.WordBank.words_of c.args.bank in
    let o = c.args.opened.now in
    let over = c.over.ensures in
    record {
      kind = kind_is words o.header o.places.items c.requires.opened Hollow c.requires.kind;
      lefts = subst (λ e. ReadsSums words 0 e) (sym over.left) c.sums_at-left.ensures;
      skips = subst (λ e. ReadsSums words 1 e) (sym over.skip) c.sums_at-skip.ensures;
      keys = over.keys ∙ c.from-keys.ensures ∙ sym (ap (λ (h : Header). h.keys) c.requires.opened.header);
    }
