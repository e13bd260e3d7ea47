use Rattle.std.proofs.Common.{◌≡◌, subst}
use Rattle.sx_spec_kinds.specs.declared.Kind.TheVariants.{Func}
use Rattle.sx_dump.specs.Viewing.{IsFuncView, IsHollowDistView, IsHollowView, IsLcp2View, IsLcpView, IsZfastView}
use Rattle.sx_dump.proofs.Sections.{func_values, function_there, kind_is}
use Rattle.sx_dump.proofs.bare.bare_view_of.Goals as goal

pub function_at-requires-clause-function : goal.function_at-requires-clause-function
function_at-requires-clause-function g c =
    let words = g.B.WordBank.words_of c.args.bank in
    let o = c.args.opened.now in
    let is = c.requires.opened in
    function_there words o.header o.places.items is 0 _ _ _ _ (func_values words o.header o.places.items is (kind_is words o.header o.places.items is Func c.in-Func.is))

pub returns-in-Func-clause-view : goal.returns-in-Func-clause-view
returns-in-Func-clause-view g c =
    let words = g.B.WordBank.words_of c.args.bank in
    let o = c.args.opened.now in
    let view : IsFuncView words c.function_at.result = record {
      kind = kind_is words o.header o.places.items c.requires.opened Func c.in-Func.is;
      values = c.function_at.ensures;
    } in
    record {
      func = λ v same. let e : c.function_at.result ≡ v = cc in subst (λ w. IsFuncView words w) e view;
      lcp = λ v same. absurd cc;
      lcp2 = λ v same. absurd cc;
      hollow = λ v same. absurd cc;
      hollow_dist = λ v same. absurd cc;
      zfast = λ v same. absurd cc;
    }

pub returns-in-Lcp-clause-view : goal.returns-in-Lcp-clause-view
returns-in-Lcp-clause-view g c =
    let words = g.B.WordBank.words_of c.args.bank in
    record {
      func = λ v same. absurd cc;
      lcp = λ v same. let e : c.lcp_view.result ≡ v = cc in subst (λ w. IsLcpView words w) e c.lcp_view.ensures;
      lcp2 = λ v same. absurd cc;
      hollow = λ v same. absurd cc;
      hollow_dist = λ v same. absurd cc;
      zfast = λ v same. absurd cc;
    }

pub returns-in-Lcp2-clause-view : goal.returns-in-Lcp2-clause-view
returns-in-Lcp2-clause-view g c =
    let words = g.B.WordBank.words_of c.args.bank in
    record {
      func = λ v same. absurd cc;
      lcp = λ v same. absurd cc;
      lcp2 = λ v same. let e : c.lcp2_view.result ≡ v = cc in subst (λ w. IsLcp2View words w) e c.lcp2_view.ensures;
      hollow = λ v same. absurd cc;
      hollow_dist = λ v same. absurd cc;
      zfast = λ v same. absurd cc;
    }

pub returns-in-Zfast-clause-view : goal.returns-in-Zfast-clause-view
returns-in-Zfast-clause-view g c =
    let words = g.B.WordBank.words_of c.args.bank in
    record {
      func = λ v same. absurd cc;
      lcp = λ v same. absurd cc;
      lcp2 = λ v same. absurd cc;
      hollow = λ v same. absurd cc;
      hollow_dist = λ v same. absurd cc;
      zfast = λ v same. let e : c.zfast_view.result ≡ v = cc in subst (λ w. IsZfastView words w) e c.zfast_view.ensures;
    }
