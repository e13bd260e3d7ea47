use Rattle.std.proofs.Common.{ap, sym, subst, ◌∙◌}
use Rattle.sx_spec_kinds.specs.declared.Kind.TheVariants.{Lcp}
use Rattle.sx_spec.specs.Layout.{Header}
use Rattle.sx_dump.specs.Viewing.{ReadsFunction}
use Rattle.sx_dump.proofs.Sections.{function_there, kind_is, lcp_lengths, lcp_prefixes}
use Rattle.sx_dump.proofs.view.lcp_view.Goals as goal

pub function_at-lengths-requires-clause-function : goal.function_at-lengths-requires-clause-function
function_at-lengths-requires-clause-function g c =
    let words = g.B.WordBank.words_of c.args.bank in
    let o = c.args.opened.now in
    let is = c.requires.opened in
    function_there words o.header o.places.items is 0 _ _ _ _ (lcp_lengths words o.header o.places.items is (kind_is words o.header o.places.items is Lcp c.requires.kind))

pub function_at-prefixes-requires-clause-function : goal.function_at-prefixes-requires-clause-function
function_at-prefixes-requires-clause-function g c =
    let words = g.B.WordBank.words_of c.args.bank in
    let o = c.args.opened.now in
    let is = c.requires.opened in
    function_there words o.header o.places.items is 1 _ _ _ _ (lcp_prefixes words o.header o.places.items is (kind_is words o.header o.places.items is Lcp c.requires.kind))

pub returns : goal.returns
returns g c =
    let words = g.B.WordBank.words_of c.args.bank in
    let o = c.args.opened.now in
    let made = c.new.ensures in
    record {
      kind = kind_is words o.header o.places.items c.requires.opened Lcp c.requires.kind;
      lengths = subst (λ v. ReadsFunction words 0 v) (sym made.lengths) c.function_at-lengths.ensures;
      prefixes = subst (λ v. ReadsFunction words 1 v) (sym made.prefixes) c.function_at-prefixes.ensures;
      keys = made.keys ∙ c.from-keys.ensures ∙ sym (ap (λ (h : Header). h.keys) c.requires.opened.header);
      bucket = made.bucket ∙ sym (ap (λ (h : Header). h.plan.log_bucket) c.requires.opened.header);
    }
