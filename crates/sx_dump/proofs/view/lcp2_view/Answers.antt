use Rattle.std.proofs.Common.{ap, sym, subst, ◌∙◌}
use Rattle.sx_spec_kinds.specs.declared.Kind.TheVariants.{Lcp2}
use Rattle.sx_spec.specs.Layout.{Header}
use Rattle.sx_dump.specs.Viewing.{ReadsFunction, ReadsNumbers}
use Rattle.sx_dump.proofs.Sections.{function_there, kind_is, lcp2_codes, lcp2_escaped, lcp2_offsets, lcp2_prefixes, lcp2_table, list_there}
use Rattle.sx_dump.proofs.view.lcp2_view.Goals as goal

pub function_at-offsets-requires-clause-function : goal.function_at-offsets-requires-clause-function
function_at-offsets-requires-clause-function g c =
    let words = g.B.WordBank.words_of c.args.bank in
    let o = c.args.opened.now in
    let is = c.requires.opened in
    function_there words o.header o.places.items is 0 _ _ _ _ (lcp2_offsets words o.header o.places.items is (kind_is words o.header o.places.items is Lcp2 c.requires.kind))

pub function_at-codes-requires-clause-function : goal.function_at-codes-requires-clause-function
function_at-codes-requires-clause-function g c =
    let words = g.B.WordBank.words_of c.args.bank in
    let o = c.args.opened.now in
    let is = c.requires.opened in
    function_there words o.header o.places.items is 1 _ _ _ _ (lcp2_codes words o.header o.places.items is (kind_is words o.header o.places.items is Lcp2 c.requires.kind))

pub list_at-table-requires-clause-list : goal.list_at-table-requires-clause-list
list_at-table-requires-clause-list g c =
    let words = g.B.WordBank.words_of c.args.bank in
    let o = c.args.opened.now in
    let is = c.requires.opened in
    list_there words o.header o.places.items is 2 32 (lcp2_table words o.header o.places.items is (kind_is words o.header o.places.items is Lcp2 c.requires.kind))

pub function_at-escaped-requires-clause-function : goal.function_at-escaped-requires-clause-function
function_at-escaped-requires-clause-function g c =
    let words = g.B.WordBank.words_of c.args.bank in
    let o = c.args.opened.now in
    let is = c.requires.opened in
    function_there words o.header o.places.items is 3 _ _ _ _ (lcp2_escaped words o.header o.places.items is (kind_is words o.header o.places.items is Lcp2 c.requires.kind))

pub function_at-prefixes-requires-clause-function : goal.function_at-prefixes-requires-clause-function
function_at-prefixes-requires-clause-function g c =
    let words = g.B.WordBank.words_of c.args.bank in
    let o = c.args.opened.now in
    let is = c.requires.opened in
    function_there words o.header o.places.items is 4 _ _ _ _ (lcp2_prefixes words o.header o.places.items is (kind_is words o.header o.places.items is Lcp2 c.requires.kind))

pub returns : goal.returns
returns g c =
    let words = g.B.WordBank.words_of c.args.bank in
    let o = c.args.opened.now in
    let made = c.new.ensures in
    record {
      kind = kind_is words o.header o.places.items c.requires.opened Lcp2 c.requires.kind;
      offsets = subst (λ v. ReadsFunction words 0 v) (sym made.offsets) c.function_at-offsets.ensures;
      codes = subst (λ v. ReadsFunction words 1 v) (sym made.codes) c.function_at-codes.ensures;
      table = subst (λ v. ReadsNumbers words 2 v) (sym made.table) c.list_at-table.ensures;
      escaped = subst (λ v. ReadsFunction words 3 v) (sym made.escaped) c.function_at-escaped.ensures;
      prefixes = subst (λ v. ReadsFunction words 4 v) (sym made.prefixes) c.function_at-prefixes.ensures;
      keys = made.keys ∙ c.from-keys.ensures ∙ sym (ap (λ (h : Header). h.keys) c.requires.opened.header);
      bucket = made.bucket ∙ sym (ap (λ (h : Header). h.plan.log_bucket) c.requires.opened.header);
    }
