-- A way with one node more.
use Rattle.std.proofs.Common.{◌≡◌, ℕ, suc, ◌-◌, ◌<◌, List, [], ◌∷◌, ◌++◌, length, get_or, sym, ◌∙◌, ap, subst, arith, inl, inr}
use Rattle.std.proofs.lemmas.Bool.{cases_lt}
use Rattle.std.proofs.lemmas.List.{get_or_append_left, get_or_push, length_push}
use Rattle.sx_spec_strings.specs.Bits.{Bits}
use Rattle.sx_spec_kinds.specs.Search.{handle_of}
use Rattle.sx_handles.specs.Ways.{way_at, IsWay}
use Rattle.sx_handles.specs.declared.ways.way_node.WayNode.{WayNode}

module _ (nodes : List WayNode) (n : WayNode) where
  pub at_old : (i : ℕ) → i < length nodes → way_at (nodes ++ n ∷ []) i ≡ way_at nodes i
  at_old i less = get_or_append_left nodes (n ∷ []) (record { node = 0; handle = 0 }) i less

  pub at_last : (i : ℕ) → i ≡ length nodes → way_at (nodes ++ n ∷ []) i ≡ n
  at_last i is = get_or_push nodes n (record { node = 0; handle = 0 }) i (sym is)

  -- what holds of each node and of the new one holds of each
  pub each_grown : (P : WayNode → Type 0) (i : ℕ) → i < length (nodes ++ n ∷ []) → (i < length nodes → P (way_at nodes i)) → (i ≡ length nodes → P n) → P (way_at (nodes ++ n ∷ []) i)
  each_grown P i less old new =
      let size = length_push nodes n in
      elim (cases_lt i (length nodes)) [
        | inl early ↦ subst P (sym (at_old i early)) (old early)
        | inr late ↦ let is : i ≡ length nodes = omega arith in subst P (sym (at_last i is)) (new is)
      ]

  pub way_grown : (es : List Bits) → IsWay es nodes → 0 < n.node → n.node < length es → n.handle ≡ length (handle_of es (get_or es n.node []))
      → (way_at nodes (length nodes - 1)).handle < n.handle → IsWay es (nodes ++ n ∷ [])
  way_grown es way later inside handle more =
      let size = length_push nodes n in
      let some = way.some in
      record {
        some = omega arith;
        root = at_old 0 some ∙ way.root;
        inner = λ i s less. each_grown (λ w. 0 < w.node) i less (λ early. way.inner i s early) (λ e. later);
        inside = λ i less. each_grown (λ w. w.node < length es) i less (λ early. way.inside i early) (λ e. inside);
        handles = λ i s less. each_grown (λ w. w.handle ≡ length (handle_of es (get_or es w.node []))) i less (λ early. way.handles i s early) (λ e. handle);
        rising = λ i less.
            let old = at_old i (omega arith) in
            let here = ap (λ (w : WayNode). w.handle) old in
            elim (cases_lt (suc i) (length nodes)) [
              | inl early ↦
                  let next = ap (λ (w : WayNode). w.handle) (at_old (suc i) early) in
                  let rise = way.rising i early in
                  omega arith
              | inr late ↦
                  let next = ap (λ (w : WayNode). w.handle) (at_last (suc i) (omega arith)) in
                  let is : i ≡ length nodes - 1 = omega arith in
                  let own = ap (λ m. (way_at nodes m).handle) is in
                  omega arith
            ];
      }
