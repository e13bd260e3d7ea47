-- The names of a trie's nodes end within their extents.
use Rattle.std.proofs.Common.{◌≡◌, ℕ, ◌+◌, ◌-◌, ◌^◌, ◌<◌, ◌≤◌, List, [], length, get_or, drop, refl, ap, subst, ◌∙◌, arith}
use Rattle.std.specs.Prelude.{map, slice_index}
use Rattle.std.proofs.lemmas.List.{length-map, length-drop, get_or-map, get_or-drop}
use Rattle.sx_spec_strings.specs.Bits.{Bits, AreKeyBits}
use Rattle.sx_spec_strings.specs.Ordered.{IsIn}
use Rattle.sx_spec_strings.proofs.BitLaws.{proper_parts}
use Rattle.sx_spec_kinds.specs.Trie as spec
use Rattle.sx_spec_kinds.proofs.NameLaws.{in_at, name_len_above, name_len_from}
use Rattle.sx_spec_kinds.proofs.TrieLaws.{extents_trie, length-extents_of}
use Rattle.sx_trie.specs.declared.nodes.Entry.{Entry}
use Rattle.sx_trie.specs.Tries.{contents_of, node_of, AreEntriesOf, IsFit}

name_within : (ds : List Bits) → AreKeyBits ds → (i : ℕ) → 1 ≤ i → i < length (spec.extents_of ds)
    → (1 ≤ spec.name_len (spec.extents_of ds) (get_or (spec.extents_of ds) i [])) × (spec.name_len (spec.extents_of ds) (get_or (spec.extents_of ds) i []) ≤ length (get_or (spec.extents_of ds) i []))
name_within ds keys i some inside =
    let es = spec.extents_of ds in
    let e = get_or es i [] in
    let n : 1 + (i - 1) ≡ i = omega arith in
    let later : IsIn (drop 1 es) e =
    subst (IsIn (drop 1 es)) (get_or-drop 1 es (i - 1) [] ∙ ap (λ m. get_or es m []) n)
    (in_at (drop 1 es) (i - 1) (let l = length-drop 1 es in omega arith)) in
    let proper = (extents_trie ds keys).rooted e later in
    let above = name_len_above es (get_or es 0 []) e (in_at es 0 (omega arith)) proper in
    let (f, there, before, size) = name_len_from es e (omega arith) in
    let less = (proper_parts f e before).1 in
    (omega arith, omega arith)

extent_of : (ds : List Bits) (e : Bits) → (spec.node_of ds e).extent ≡ length e
unfolding spec.node_of
extent_of ds e = refl

pub fits : (ds : List Bits) → AreKeyBits ds → (delimiters : List ℕ) (entries : List Entry) → length ds ≡ length delimiters → length delimiters < 2 ^ 32 → AreEntriesOf ds entries → IsFit (contents_of delimiters entries)
fits ds keys delimiters entries many few are =
    let es = spec.extents_of ds in
    let nodes = ap length are.nodes ∙ length-map es (spec.node_of ds) in
    let size = length-extents_of ds keys in
    record {
      leaves = few;
      few = omega arith;
      names = λ i some inside.
          let bounds = name_within ds keys i some (omega arith) in
          let name : slice_index (map (λ (e : Entry). e.name) entries) i ≡ spec.name_len es (get_or es i []) =
          ap (λ ns. slice_index ns i) are.names ∙ get_or-map (spec.name_len es) es i [] 0 (omega arith) in
          let node : spec.node_at (map (λ (e : Entry). node_of e.node) entries) i ≡ spec.node_of ds (get_or es i []) =
          ap (λ ns. spec.node_at ns i) are.nodes ∙ get_or-map (spec.node_of ds) es i [] spec.no_node (omega arith) in
          let extent = ap (λ (n : spec.Node). n.extent) node ∙ extent_of ds (get_or es i []) in
          (omega arith, omega arith);
    }
