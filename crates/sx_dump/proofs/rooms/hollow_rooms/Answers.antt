use Rattle.std.proofs.Common.{◌≡◌, ◌+◌, ◌-◌, length, arith, ap}
use Rattle.sx_spec_kinds.specs.declared.Kind.TheVariants.{Hollow}
use Rattle.sx_spec.specs.Layout.{Header, header_of}
use Rattle.sx_spec.specs.Reply.{numbers_of}
use Rattle.sx_dump.specs.Opening.{dump_in}
use Rattle.sx_dump.proofs.Sections.{hollow_left, hollow_skip, kind_is, sums_count_there, sums_there}
use Rattle.sx_dump.proofs.rooms.hollow_rooms.Goals as goal

pub rooms_at-requires-clause-lefts : goal.rooms_at-requires-clause-lefts
rooms_at-requires-clause-lefts g c =
    let words = g.B.WordBank.words_of c.args.bank in
    let o = c.args.opened.now in
    let is = c.requires.opened in
    let keys = (header_of words).keys in
    sums_there words o.header o.places.items is 0 (keys - 1 + 1) (omega arith) (hollow_left words o.header o.places.items is (kind_is words o.header o.places.items is Hollow c.requires.kind))

pub rooms_at-requires-clause-skips : goal.rooms_at-requires-clause-skips
rooms_at-requires-clause-skips g c =
    let words = g.B.WordBank.words_of c.args.bank in
    let o = c.args.opened.now in
    let is = c.requires.opened in
    let keys = (header_of words).keys in
    sums_there words o.header o.places.items is 1 (keys - 1 + 1) (omega arith) (hollow_skip words o.header o.places.items is (kind_is words o.header o.places.items is Hollow c.requires.kind))

pub rooms_at-requires-clause-within : goal.rooms_at-requires-clause-within
rooms_at-requires-clause-within g c =
    let words = g.B.WordBank.words_of c.args.bank in
    let o = c.args.opened.now in
    let is = c.requires.opened in
    let head : (header_of words).keys ≡ o.header.keys = ap (λ (h : Header). h.keys) is.header in
    let keys = c.from-keys.ensures in
    let nodes = c.saturating_sub.ensures in
    let many : length (numbers_of (dump_in words) 0) ≡ (header_of words).keys - 1 + 1 = sums_count_there words o.header o.places.items is 0 _ (hollow_left words o.header o.places.items is (kind_is words o.header o.places.items is Hollow c.requires.kind)) in
    omega (arith, many, head, keys, nodes)

pub rooms_at-requires-clause-beside : goal.rooms_at-requires-clause-beside
rooms_at-requires-clause-beside g c =
    let words = g.B.WordBank.words_of c.args.bank in
    let o = c.args.opened.now in
    let is = c.requires.opened in
    let head : (header_of words).keys ≡ o.header.keys = ap (λ (h : Header). h.keys) is.header in
    let keys = c.from-keys.ensures in
    let nodes = c.saturating_sub.ensures in
    let many : length (numbers_of (dump_in words) 1) ≡ (header_of words).keys - 1 + 1 = sums_count_there words o.header o.places.items is 1 _ (hollow_skip words o.header o.places.items is (kind_is words o.header o.places.items is Hollow c.requires.kind)) in
    omega (arith, many, head, keys, nodes)
