use Rattle.std.proofs.Common.{◌≡◌, ◌+◌, ℕ, List, [], length, map, arith, ap, sym, subst, ◌∙◌}
use Rattle.std.specs.Prelude.{max, slice_index_or}
use Rattle.sx_ef.specs.declared.view.EliasFano.{EliasFano}
use Rattle.sx_fields.specs.declared.bank.WordBank.{Ghosts}
use Rattle.sx_spec_kinds.specs.declared.Kind.TheVariants.{HollowDist}
use Rattle.sx_spec.specs.Kinds.{delimiter_count, inner_count}
use Rattle.sx_spec.specs.Reply.{gaps, numbers_of}
use Rattle.sx_hollow.specs.Tops.{AreKept}
use Rattle.sx_hollow.specs.Views.{sums_read}
use Rattle.sx_spec.specs.Layout.{Header as HeaderOf, header_of, sums_section}
use Rattle.sx_sections.specs.declared.header.Header.{Header}
use Rattle.sx_sections.specs.declared.place.Place.{Place}
use Rattle.sx_sections.specs.Places.{section_at}
use Rattle.sx_dump.specs.Opening.{IsOpened, dump_in}
use Rattle.sx_dump.specs.Viewing.{ReadsFunction, ReadsSums, sums_by}
use Rattle.sx_dump.proofs.Sections.{IsSumsOf, function_there, hollow_dist_left, hollow_dist_offsets, hollow_dist_skip, hollow_dist_turns, kind_is, sums_count_there, sums_there}
use Rattle.sx_dump.proofs.view.hollow_dist_view.Goals as goal

pub function_at-offsets-requires-clause-function : goal.function_at-offsets-requires-clause-function
function_at-offsets-requires-clause-function g c =
    let words = g.B.WordBank.words_of c.args.bank in
    let o = c.args.opened.now in
    let is = c.requires.opened in
    function_there words o.header o.places.items is _ _ _ _ _ (hollow_dist_offsets words o.header o.places.items is (kind_is words o.header o.places.items is HollowDist c.requires.kind))

pub function_at-turns-requires-clause-function : goal.function_at-turns-requires-clause-function
function_at-turns-requires-clause-function g c =
    let words = g.B.WordBank.words_of c.args.bank in
    let o = c.args.opened.now in
    let is = c.requires.opened in
    function_there words o.header o.places.items is _ _ _ _ _ (hollow_dist_turns words o.header o.places.items is (kind_is words o.header o.places.items is HollowDist c.requires.kind))

pub sums_at-left-requires-clause-sums : goal.sums_at-left-requires-clause-sums
sums_at-left-requires-clause-sums g c =
    let words = g.B.WordBank.words_of c.args.bank in
    let o = c.args.opened.now in
    let is = c.requires.opened in
    let head = header_of words in
    sums_there words o.header o.places.items is _ (inner_count head.plan head.keys + 1) (omega arith) (hollow_dist_left words o.header o.places.items is (kind_is words o.header o.places.items is HollowDist c.requires.kind))

pub sums_at-skip-requires-clause-sums : goal.sums_at-skip-requires-clause-sums
sums_at-skip-requires-clause-sums g c =
    let words = g.B.WordBank.words_of c.args.bank in
    let o = c.args.opened.now in
    let is = c.requires.opened in
    let head = header_of words in
    sums_there words o.header o.places.items is _ (inner_count head.plan head.keys + 1) (omega arith) (hollow_dist_skip words o.header o.places.items is (kind_is words o.header o.places.items is HollowDist c.requires.kind))

-- each of the two lists has as many numbers as there are delimiters, or one
module _ (words : List ℕ) (h : Header) (places : List Place) (is : IsOpened words h places) (kind : h.plan.kind ≡ HollowDist) (count : ℕ)
    (counted : count ≡ delimiter_count h.plan h.keys) where
  as_many : (i : ℕ) → IsSumsOf (inner_count (header_of words).plan (header_of words).keys + 1) (slice_index_or (map (section_at words) places) i (sums_section []))
      → {B D : Type 0} {bank_of : Ghosts B} {dir_of : Ghosts D} (e : EliasFano B D bank_of dir_of) → ReadsSums words i e → length (sums_by e) ≡ max 1 count
  as_many i row e reads =
      let many : length (sums_by e) ≡ inner_count (header_of words).plan (header_of words).keys + 1 = ap (λ (xs : List ℕ). length xs) reads.numbers ∙ sums_count_there words h places is i _ row in
      let same : count ≡ delimiter_count (header_of words).plan (header_of words).keys = counted ∙ sym (ap (λ (g : HeaderOf). delimiter_count g.plan g.keys) is.header) in
      omega arith

  lefts : {B D : Type 0} {bank_of : Ghosts B} {dir_of : Ghosts D} (e : EliasFano B D bank_of dir_of) → ReadsSums words 1 e → length (sums_by e) ≡ max 1 count
  lefts e reads = as_many 1 (hollow_dist_left words h places is (kind_is words h places is HollowDist kind)) e reads

  skips : {B D : Type 0} {bank_of : Ghosts B} {dir_of : Ghosts D} (e : EliasFano B D bank_of dir_of) → ReadsSums words 2 e → length (sums_by e) ≡ max 1 count
  skips e reads = as_many 2 (hollow_dist_skip words h places is (kind_is words h places is HollowDist kind)) e reads

pub over-blocks-requires-clause-left : goal.over-blocks-requires-clause-left
over-blocks-requires-clause-left g c =
    let words = g.B.WordBank.words_of c.args.bank in
    let o = c.args.opened.now in
    let counted = c.delimiter_count-delimiters.ensures.value in
    let left = lefts words o.header o.places.items c.requires.opened c.requires.kind c.delimiter_count-delimiters.result counted c.sums_at-left.result c.sums_at-left.ensures in
    let skip = skips words o.header o.places.items c.requires.opened c.requires.kind c.delimiter_count-delimiters.result counted c.sums_at-skip.result c.sums_at-skip.ensures in
    omega (arith, left, skip)

pub over-blocks-requires-clause-skip : goal.over-blocks-requires-clause-skip
over-blocks-requires-clause-skip g c =
    let words = g.B.WordBank.words_of c.args.bank in
    let o = c.args.opened.now in
    let counted = c.delimiter_count-delimiters.ensures.value in
    let left = lefts words o.header o.places.items c.requires.opened c.requires.kind c.delimiter_count-delimiters.result counted c.sums_at-left.result c.sums_at-left.ensures in
    let skip = skips words o.header o.places.items c.requires.opened c.requires.kind c.delimiter_count-delimiters.result counted c.sums_at-skip.result c.sums_at-skip.ensures in
    omega (arith, left, skip)

pub sums_at-left-requires-clause-made : goal.sums_at-left-requires-clause-made
sums_at-left-requires-clause-made g c = c.requires.rooms.left

pub sums_at-skip-requires-clause-made : goal.sums_at-skip-requires-clause-made
sums_at-skip-requires-clause-made g c = c.requires.rooms.skip

pub over-blocks-requires-clause-kept : goal.over-blocks-requires-clause-kept
over-blocks-requires-clause-kept g c =
    let words = g.B.WordBank.words_of c.args.bank in
    let top = g.D.WordBank.words_of c.args.rooms.top in
    subst (λ (xs : List ℕ). AreKept (gaps xs) (gaps (sums_read c.sums_at-skip.result)) top) (sym c.sums_at-left.ensures.numbers)
    (subst (λ (ys : List ℕ). AreKept (gaps (numbers_of (dump_in words) 1)) (gaps ys) top) (sym c.sums_at-skip.ensures.numbers) c.requires.rooms.top)

pub returns : goal.returns
returns g c =
    let words = g.B.WordBank.words_of c.args.bank in
    let o = c.args.opened.now in
    let is = c.requires.opened in
    let made = c.new.ensures in
    let over = c.over-blocks.ensures in
    record {
      kind = kind_is words o.header o.places.items is HollowDist c.requires.kind;
      offsets = subst (λ v. ReadsFunction words 0 v) (sym made.offsets) c.function_at-offsets.ensures;
      lefts = subst (λ e. ReadsSums words 1 e) (sym (ap (λ v. v.left) made.blocks ∙ over.left)) c.sums_at-left.ensures;
      skips = subst (λ e. ReadsSums words 2 e) (sym (ap (λ v. v.skip) made.blocks ∙ over.skip)) c.sums_at-skip.ensures;
      turns = subst (λ v. ReadsFunction words 3 v) (sym (ap (λ v. v.turns) made.blocks ∙ over.turns)) c.function_at-turns.ensures;
      delimiters = ap (λ v. v.delimiters) made.blocks ∙ over.delimiters ∙ c.delimiter_count-delimiters.ensures.value ∙ sym (ap (λ (h : HeaderOf). delimiter_count h.plan h.keys) is.header);
      keys = made.keys ∙ c.from-keys.ensures ∙ sym (ap (λ (h : HeaderOf). h.keys) is.header);
      bucket = made.bucket ∙ sym (ap (λ (h : HeaderOf). h.plan.log_bucket) is.header);
    }
