use Rattle.std.proofs.Common.{◌≡◌, ◌+◌, length, arith, ap, sym, ◌∙◌}
use Rattle.sx_spec_kinds.specs.declared.Kind.TheVariants.{HollowDist}
use Rattle.sx_spec.specs.Kinds.{delimiter_count, inner_count}
use Rattle.sx_spec.specs.Layout.{Header, header_of}
use Rattle.sx_spec.specs.Reply.{numbers_of}
use Rattle.sx_dump.specs.Opening.{dump_in}
use Rattle.sx_dump.proofs.Sections.{hollow_dist_left, hollow_dist_skip, kind_is, sums_count_there, sums_there}
use Rattle.sx_dump.proofs.rooms.hollow_dist_rooms.Goals as goal

pub rooms_at-requires-clause-lefts : goal.rooms_at-requires-clause-lefts
rooms_at-requires-clause-lefts g c =
    let words = g.B.WordBank.words_of c.args.bank in
    let o = c.args.opened.now in
    let is = c.requires.opened in
    let head = header_of words in
    sums_there words o.header o.places.items is 1 (inner_count head.plan head.keys + 1) (omega arith) (hollow_dist_left words o.header o.places.items is (kind_is words o.header o.places.items is HollowDist c.requires.kind))

pub rooms_at-requires-clause-skips : goal.rooms_at-requires-clause-skips
rooms_at-requires-clause-skips g c =
    let words = g.B.WordBank.words_of c.args.bank in
    let o = c.args.opened.now in
    let is = c.requires.opened in
    let head = header_of words in
    sums_there words o.header o.places.items is 2 (inner_count head.plan head.keys + 1) (omega arith) (hollow_dist_skip words o.header o.places.items is (kind_is words o.header o.places.items is HollowDist c.requires.kind))

pub rooms_at-requires-clause-within : goal.rooms_at-requires-clause-within
rooms_at-requires-clause-within g c =
    let words = g.B.WordBank.words_of c.args.bank in
    let o = c.args.opened.now in
    let is = c.requires.opened in
    let head = header_of words in
    let nodes = c.saturating_sub.ensures in
    let same : c.delimiter_count-delimiters.result ≡ delimiter_count head.plan head.keys = c.delimiter_count-delimiters.ensures.value ∙ sym (ap (λ (h : Header). delimiter_count h.plan h.keys) is.header) in
    let many : length (numbers_of (dump_in words) 1) ≡ inner_count head.plan head.keys + 1 = sums_count_there words o.header o.places.items is 1 _ (hollow_dist_left words o.header o.places.items is (kind_is words o.header o.places.items is HollowDist c.requires.kind)) in
    omega (arith, many, same, nodes)

pub rooms_at-requires-clause-beside : goal.rooms_at-requires-clause-beside
rooms_at-requires-clause-beside g c =
    let words = g.B.WordBank.words_of c.args.bank in
    let o = c.args.opened.now in
    let is = c.requires.opened in
    let head = header_of words in
    let nodes = c.saturating_sub.ensures in
    let same : c.delimiter_count-delimiters.result ≡ delimiter_count head.plan head.keys = c.delimiter_count-delimiters.ensures.value ∙ sym (ap (λ (h : Header). delimiter_count h.plan h.keys) is.header) in
    let many : length (numbers_of (dump_in words) 2) ≡ inner_count head.plan head.keys + 1 = sums_count_there words o.header o.places.items is 2 _ (hollow_dist_skip words o.header o.places.items is (kind_is words o.header o.places.items is HollowDist c.requires.kind)) in
    omega (arith, many, same, nodes)
