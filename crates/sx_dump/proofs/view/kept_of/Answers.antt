use Rattle.std.proofs.Common.{◌≡◌, ◌≢◌, ◌-◌, ◌<◌, ℕ, length, subst, sym, ◌∙◌, arith}
use Rattle.sx_spec.specs.Layout.{header_of}
use Rattle.sx_dump.specs.Opening.{IsListAt}
use Rattle.sx_dump.specs.Viewing.{ReadsKept, ReadsNumbers}
use Rattle.sx_dump.proofs.Sections.{kept_numbers_are, kept_there, kept_width, places_some, signed_some}
use Rattle.sx_dump.proofs.view.kept_of.Goals as goal

pub overflow_sub-last : goal.overflow_sub-last
overflow_sub-last g c =
    let words = g.B.WordBank.words_of c.args.bank in
    let o = c.args.opened.now in
    let some : 0 < length o.places.items = places_some words o.header o.places.items c.requires (signed_some words o.header o.places.items c.requires c.if-opened-eq0.false) in
    omega (arith, some, c.len-last.ensures.value)

pub list_at-requires-clause-list : goal.list_at-requires-clause-list
list_at-requires-clause-list g c =
    let words = g.B.WordBank.words_of c.args.bank in
    let o = c.args.opened.now in
    let there : IsListAt o.places.items (length o.places.items - 1) = kept_there words o.header o.places.items c.requires (signed_some words o.header o.places.items c.requires c.if-opened-eq0.false) in
    subst (λ (n : ℕ). IsListAt o.places.items (n - 1)) (sym c.len-last.ensures.value) there

pub returns : goal.returns
returns g c =
    let words = g.B.WordBank.words_of c.args.bank in
    let o = c.args.opened.now in
    let some : (header_of words).plan.signed ≢ 0 = signed_some words o.header o.places.items c.requires c.if-opened-eq0.false in
    let reads : ReadsNumbers words (length o.places.items - 1) c.list_at.result = subst (λ (n : ℕ). ReadsNumbers words (n - 1) c.list_at.result) c.len-last.ensures.value c.list_at.ensures in
    let kept : ReadsKept words c.list_at.result = record {
      signed = some;
      numbers = reads.numbers ∙ kept_numbers_are words o.header o.places.items c.requires some;
      width = reads.width ∙ kept_width words o.header o.places.items c.requires some;
    } in
    record {
      some = λ p same. let e : c.list_at.result ≡ p = cc in subst (λ v. ReadsKept words v) e kept;
      none = λ same. absurd cc;
    }
