use Rattle.std.proofs.Common.{◌≡◌, ◌≢◌, ◌-◌, ◌<◌, ◌≤◌, Bool, length, take, drop, sym, ap₂, subst, ◌∙◌, arith, inl, inr, eq-eqb}
use Rattle.std.specs.Prelude.{◌⊎◌}
use Rattle.std.specs.Bool.{MatchBool}
use Rattle.std.proofs.lemmas.Bool.{cases_eq, ne_eqb}
use Rattle.sx_spec_strings.specs.Bits.{Bits, common_prefix}
use Rattle.sx_bits.specs.Views.{bits_of}
use Rattle.sx_trie.proofs.ExitWalk.{fronts_same, fronts_differ}
use Rattle.sx_trie.proofs.tries.goes_on.Goals as goal

pub returns-clause-proper : goal.returns-clause-proper
returns-clause-proper c =
    let x = bits_of c.args.view.now in
    let d = bits_of c.args.delimiter.now in
    let name = c.args.name in
    let extent = c.args.extent in
    let lx = c.len.ensures.value in
    let common : c.lcp.result ≡ length (common_prefix (take (extent - name) (drop name x)) (take (extent - name) (drop name d))) =
    c.lcp.ensures.value ∙ ap₂ (λ (u v : Bits). length (common_prefix u v)) c.range.ensures c.range-2.ensures in
    let on : Type 0 = (extent < length x) × (take extent x ≡ take extent d) in
    let off : Type 0 = (length x ≤ extent) ⊎ (take extent x ≢ take extent d) in
    elim (cases_eq c.lcp.result (extent - name)) [
      | inl same ↦
          subst (λ (b : Bool). MatchBool b on off) (sym (eq-eqb c.lcp.result (extent - name) same))
          (omega arith, fronts_same x d name extent c.requires.ordered (omega arith) c.requires.inside c.requires.shared (sym common ∙ same))
      | inr differ ↦
          subst (λ (b : Bool). MatchBool b on off) (sym (ne_eqb c.lcp.result (extent - name) differ))
          (inr (fronts_differ x d name extent c.requires.ordered (omega arith) c.requires.inside (λ e. differ (common ∙ e))))
    ]
