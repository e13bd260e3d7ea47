use Rattle.std.proofs.Common.{length, ap, sym, subst, ◌∙◌}
use Rattle.sx_spec_kinds.specs.declared.Kind.TheVariants.{Zfast}
use Rattle.sx_spec.specs.Kinds.{delimiter_count}
use Rattle.sx_spec.specs.Layout.{Header as HeaderOf}
use Rattle.sx_zfast.specs.Largest.{largest}
use Rattle.sx_dump.specs.Viewing.{ReadsCorrections, ReadsFunction, ReadsNumbers, numbers_by}
use Rattle.sx_dump.proofs.Sections.{kind_is}
use Rattle.sx_dump.proofs.ZfastSections.{afters_are, afters_there, blocks_beside, blocks_there, codes_there, extents_are, extents_there, few_delimiters, firsts_are, firsts_there, handles_there, marks_are, marks_there, marks_width, middles_are, middles_there, offsets_there, signatures_there}
use Rattle.sx_dump.proofs.view.zfast_view.Goals as goal

pub function_at-offsets-requires-clause-function : goal.function_at-offsets-requires-clause-function
function_at-offsets-requires-clause-function g c =
    let words = g.B.WordBank.words_of c.args.bank in
    let o = c.args.opened.now in
    offsets_there words o.header o.places.items c.requires.opened c.requires.kind

pub list_at-extents-requires-clause-list : goal.list_at-extents-requires-clause-list
list_at-extents-requires-clause-list g c =
    let words = g.B.WordBank.words_of c.args.bank in
    let o = c.args.opened.now in
    extents_there words o.header o.places.items c.requires.opened c.requires.kind

pub list_at-firsts-requires-clause-list : goal.list_at-firsts-requires-clause-list
list_at-firsts-requires-clause-list g c =
    let words = g.B.WordBank.words_of c.args.bank in
    let o = c.args.opened.now in
    firsts_there words o.header o.places.items c.requires.opened c.requires.kind

pub list_at-middles-requires-clause-list : goal.list_at-middles-requires-clause-list
list_at-middles-requires-clause-list g c =
    let words = g.B.WordBank.words_of c.args.bank in
    let o = c.args.opened.now in
    middles_there words o.header o.places.items c.requires.opened c.requires.kind

pub list_at-afters-requires-clause-list : goal.list_at-afters-requires-clause-list
list_at-afters-requires-clause-list g c =
    let words = g.B.WordBank.words_of c.args.bank in
    let o = c.args.opened.now in
    afters_there words o.header o.places.items c.requires.opened c.requires.kind

pub function_at-handles-requires-clause-function : goal.function_at-handles-requires-clause-function
function_at-handles-requires-clause-function g c =
    let words = g.B.WordBank.words_of c.args.bank in
    let o = c.args.opened.now in
    handles_there words o.header o.places.items c.requires.opened c.requires.kind

pub list_at-marks-requires-clause-list : goal.list_at-marks-requires-clause-list
list_at-marks-requires-clause-list g c =
    let words = g.B.WordBank.words_of c.args.bank in
    let o = c.args.opened.now in
    marks_there words o.header o.places.items c.requires.opened c.requires.kind

pub function_at-codes-requires-clause-function : goal.function_at-codes-requires-clause-function
function_at-codes-requires-clause-function g c =
    let words = g.B.WordBank.words_of c.args.bank in
    let o = c.args.opened.now in
    codes_there words o.header o.places.items c.requires.opened c.requires.kind

pub corrections_at-corrections-requires-clause-corrections : goal.corrections_at-corrections-requires-clause-corrections
corrections_at-corrections-requires-clause-corrections g c =
    let words = g.B.WordBank.words_of c.args.bank in
    let o = c.args.opened.now in
    signatures_there words o.header o.places.items c.requires.opened c.requires.kind

pub list_at-beside-requires-clause-list : goal.list_at-beside-requires-clause-list
list_at-beside-requires-clause-list g c =
    let words = g.B.WordBank.words_of c.args.bank in
    let o = c.args.opened.now in
    blocks_there words o.header o.places.items c.requires.opened c.requires.kind

pub corrections_at-corrections-requires-clause-beside : goal.corrections_at-corrections-requires-clause-beside
corrections_at-corrections-requires-clause-beside g c =
    let words = g.B.WordBank.words_of c.args.bank in
    let o = c.args.opened.now in
    blocks_beside words o.header o.places.items c.requires.opened c.requires.kind

pub new-blocks-requires-clause-few : goal.new-blocks-requires-clause-few
new-blocks-requires-clause-few g c =
    let words = g.B.WordBank.words_of c.args.bank in
    let o = c.args.opened.now in
    few_delimiters words o.header o.places.items c.requires.opened c.requires.kind c.delimiter_count-delimiters.result c.delimiter_count-delimiters.ensures.few

pub new-blocks-requires-clause-extents : goal.new-blocks-requires-clause-extents
new-blocks-requires-clause-extents g c =
    let words = g.B.WordBank.words_of c.args.bank in
    let o = c.args.opened.now in
    (extents_are words o.header o.places.items c.requires.opened c.requires.kind c.list_at-extents.result c.delimiter_count-delimiters.result c.delimiter_count-delimiters.ensures.value c.list_at-extents.ensures).0

pub new-blocks-requires-clause-firsts : goal.new-blocks-requires-clause-firsts
new-blocks-requires-clause-firsts g c =
    let words = g.B.WordBank.words_of c.args.bank in
    let o = c.args.opened.now in
    (firsts_are words o.header o.places.items c.requires.opened c.requires.kind c.list_at-firsts.result c.delimiter_count-delimiters.result c.delimiter_count-delimiters.ensures.value c.list_at-firsts.ensures).0

pub new-blocks-requires-clause-middles : goal.new-blocks-requires-clause-middles
new-blocks-requires-clause-middles g c =
    let words = g.B.WordBank.words_of c.args.bank in
    let o = c.args.opened.now in
    (middles_are words o.header o.places.items c.requires.opened c.requires.kind c.list_at-middles.result c.delimiter_count-delimiters.result c.delimiter_count-delimiters.ensures.value c.list_at-middles.ensures).0

pub new-blocks-requires-clause-afters : goal.new-blocks-requires-clause-afters
new-blocks-requires-clause-afters g c =
    let words = g.B.WordBank.words_of c.args.bank in
    let o = c.args.opened.now in
    (afters_are words o.header o.places.items c.requires.opened c.requires.kind c.list_at-afters.result c.delimiter_count-delimiters.result c.delimiter_count-delimiters.ensures.value c.list_at-afters.ensures).0

pub new-blocks-requires-clause-marks : goal.new-blocks-requires-clause-marks
new-blocks-requires-clause-marks g c =
    let words = g.B.WordBank.words_of c.args.bank in
    let o = c.args.opened.now in
    ap (λ p. length (numbers_by p)) c.new-map.ensures.kept ∙ marks_are words o.header o.places.items c.requires.opened c.requires.kind c.list_at-marks.result c.delimiter_count-delimiters.result c.delimiter_count-delimiters.ensures.value c.list_at-marks.ensures

pub new-blocks-requires-clause-narrow_extents : goal.new-blocks-requires-clause-narrow_extents
new-blocks-requires-clause-narrow_extents g c =
    let words = g.B.WordBank.words_of c.args.bank in
    let o = c.args.opened.now in
    (extents_are words o.header o.places.items c.requires.opened c.requires.kind c.list_at-extents.result c.delimiter_count-delimiters.result c.delimiter_count-delimiters.ensures.value c.list_at-extents.ensures).1

pub new-blocks-requires-clause-narrow_firsts : goal.new-blocks-requires-clause-narrow_firsts
new-blocks-requires-clause-narrow_firsts g c =
    let words = g.B.WordBank.words_of c.args.bank in
    let o = c.args.opened.now in
    (firsts_are words o.header o.places.items c.requires.opened c.requires.kind c.list_at-firsts.result c.delimiter_count-delimiters.result c.delimiter_count-delimiters.ensures.value c.list_at-firsts.ensures).1

pub new-blocks-requires-clause-narrow_middles : goal.new-blocks-requires-clause-narrow_middles
new-blocks-requires-clause-narrow_middles g c =
    let words = g.B.WordBank.words_of c.args.bank in
    let o = c.args.opened.now in
    (middles_are words o.header o.places.items c.requires.opened c.requires.kind c.list_at-middles.result c.delimiter_count-delimiters.result c.delimiter_count-delimiters.ensures.value c.list_at-middles.ensures).1

pub new-blocks-requires-clause-narrow_afters : goal.new-blocks-requires-clause-narrow_afters
new-blocks-requires-clause-narrow_afters g c =
    let words = g.B.WordBank.words_of c.args.bank in
    let o = c.args.opened.now in
    (afters_are words o.header o.places.items c.requires.opened c.requires.kind c.list_at-afters.result c.delimiter_count-delimiters.result c.delimiter_count-delimiters.ensures.value c.list_at-afters.ensures).1

pub new-blocks-requires-clause-longest : goal.new-blocks-requires-clause-longest
new-blocks-requires-clause-longest g c = c.requires.longest ∙ ap largest (sym c.list_at-extents.ensures.numbers)

pub returns : goal.returns
returns g c =
    let words = g.B.WordBank.words_of c.args.bank in
    let o = c.args.opened.now in
    let is = c.requires.opened in
    let made = c.new.ensures in
    let blocks = c.new-blocks.ensures in
    let map = c.new-map.ensures in
    let kept = ap (λ v. v.map.kept) made.blocks ∙ ap (λ v. v.kept) blocks.map ∙ map.kept in
    record {
      kind = kind_is words o.header o.places.items is Zfast c.requires.kind;
      offsets = subst (λ v. ReadsFunction words 0 v) (sym made.offsets) c.function_at-offsets.ensures;
      extents = subst (λ p. ReadsNumbers words 1 p) (sym (ap (λ v. v.extents) made.blocks ∙ blocks.extents)) c.list_at-extents.ensures;
      firsts = subst (λ p. ReadsNumbers words 2 p) (sym (ap (λ v. v.firsts) made.blocks ∙ blocks.firsts)) c.list_at-firsts.ensures;
      middles = subst (λ p. ReadsNumbers words 3 p) (sym (ap (λ v. v.middles) made.blocks ∙ blocks.middles)) c.list_at-middles.ensures;
      afters = subst (λ p. ReadsNumbers words 4 p) (sym (ap (λ v. v.afters) made.blocks ∙ blocks.afters)) c.list_at-afters.ensures;
      handles = subst (λ v. ReadsFunction words 5 v) (sym (ap (λ v. v.map.func) made.blocks ∙ ap (λ v. v.func) blocks.map ∙ map.func)) c.function_at-handles.ensures;
      marks = subst (λ p. ReadsNumbers words 6 p) (sym kept) c.list_at-marks.ensures;
      wide = ap (λ p. p.width) kept ∙ marks_width words o.header o.places.items is c.requires.kind c.list_at-marks.result c.list_at-marks.ensures;
      codes = subst (λ v. ReadsFunction words 7 v) (sym (ap (λ v. v.codes) made.blocks ∙ blocks.codes)) c.function_at-codes.ensures;
      corrections = subst (λ v. ReadsCorrections words 8 v) (sym (ap (λ v. v.corrections) made.blocks ∙ blocks.corrections)) c.corrections_at-corrections.ensures;
      delimiters = ap (λ v. v.delimiters) made.blocks ∙ blocks.delimiters ∙ c.delimiter_count-delimiters.ensures.value ∙ sym (ap (λ (h : HeaderOf). delimiter_count h.plan h.keys) is.header);
      keys = made.keys ∙ c.from-keys.ensures ∙ sym (ap (λ (h : HeaderOf). h.keys) is.header);
      bucket = made.bucket ∙ sym (ap (λ (h : HeaderOf). h.plan.log_bucket) is.header);
    }
