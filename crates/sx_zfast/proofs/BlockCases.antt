-- The block, case by case, and the nodes of four lists.
use Rattle.std.proofs.Common.{◌≡◌, ℕ, zero, suc, ◌%◌, ◌<◌, List, [], ◌∷◌, length, map, get_or, Option, Some, None, refl, sym, ap, ◌∙◌, arith}
use Rattle.sx_spec_strings.specs.Bits.{Bits}
use Rattle.sx_spec_kinds.specs.Trie.{Node, node_at}
use Rattle.sx_spec_kinds.specs.Zfast.{HandleMap, block_from, corrected_or, plain_block, probed_search_of, zfast_block}
use Rattle.sx_spec.specs.Reply.{nodes_in}

module _ (count : ℕ) (nodes : List Node) (m : HandleMap) (codes : Bits → ℕ) (corrected : Bits → Option ℕ) (x : Bits) where
  pub block_corrected : (q : ℕ) → Some q ≡ corrected x → Some q ≡ zfast_block count nodes m codes corrected x
  unfolding zfast_block
  block_corrected q is = ap (λ (o : Option ℕ). corrected_or o (plain_block count nodes m codes x)) is

  block_plain : None ≡ corrected x → plain_block count nodes m codes x ≡ zfast_block count nodes m codes corrected x
  unfolding zfast_block
  block_plain is = ap (λ (o : Option ℕ). corrected_or o (plain_block count nodes m codes x)) is

  pub block_without : None ≡ corrected x → count ≡ 0 → Some 0 ≡ zfast_block count nodes m codes corrected x
  block_without is none = ap (λ (n : ℕ). plain_block n nodes m codes x) (sym none) ∙ block_plain is

  pub block_by_one : (code : ℕ) → None ≡ corrected x → count ≡ 1 → code ≡ codes x → Some (code % 2) ≡ zfast_block count nodes m codes corrected x
  block_by_one code is one told =
      ap (λ (c : ℕ). Some (c % 2)) told ∙ ap (λ (n : ℕ). plain_block n nodes m codes x) (sym one) ∙ block_plain is

  by_more : (n : ℕ) → 1 < n → block_from (node_at nodes (probed_search_of m (map (λ w. w.extent) nodes) x).node) (codes x) x ≡ plain_block n nodes m codes x
  by_more zero more = absurd (omega arith)
  by_more (suc zero) more = absurd (omega arith)
  by_more (suc (suc n)) more = refl

  pub block_searched : (lens : List ℕ) (node : Node) (stop code : ℕ) → None ≡ corrected x → 1 < count → lens ≡ map (λ w. w.extent) nodes → stop ≡ (probed_search_of m lens x).node
      → node ≡ node_at nodes stop → code ≡ codes x → block_from node code x ≡ zfast_block count nodes m codes corrected x
  block_searched lens node stop code is more all found at told =
      ap (λ (w : Node). block_from w code x) at
      ∙ ap (λ (v : ℕ). block_from (node_at nodes v) code x) found
      ∙ ap (λ (l : List ℕ). block_from (node_at nodes (probed_search_of m l x).node) code x) all
      ∙ ap (λ (c : ℕ). block_from (node_at nodes (probed_search_of m (map (λ w. w.extent) nodes) x).node) c x) told
      ∙ by_more count more
      ∙ block_plain is

-- ---- nodes of four lists

pub extents_in : (es fs ms ends : List ℕ) → length fs ≡ length es → length ms ≡ length es → length ends ≡ length es → es ≡ map (λ w. w.extent) (nodes_in es fs ms ends)
extents_in [] fs ms ends a b c = refl
extents_in (e ∷ es) [] ms ends a b c = absurd (omega arith)
extents_in (e ∷ es) (f ∷ fs) [] ends a b c = absurd (omega arith)
extents_in (e ∷ es) (f ∷ fs) (m ∷ ms) [] a b c = absurd (omega arith)
extents_in (e ∷ es) (f ∷ fs) (m ∷ ms) (d ∷ ends) a b c = ap (λ (l : List ℕ). e ∷ l) (extents_in es fs ms ends (omega arith) (omega arith) (omega arith))

pub node_in : (es fs ms ends : List ℕ) (i : ℕ) → length fs ≡ length es → length ms ≡ length es → length ends ≡ length es → i < length es
    → record { extent = get_or es i 0; first = get_or fs i 0; middle = get_or ms i 0; after = get_or ends i 0 } ≡ node_at (nodes_in es fs ms ends) i
node_in [] fs ms ends i a b c within = absurd (omega arith)
node_in (e ∷ es) [] ms ends i a b c within = absurd (omega arith)
node_in (e ∷ es) (f ∷ fs) [] ends i a b c within = absurd (omega arith)
node_in (e ∷ es) (f ∷ fs) (m ∷ ms) [] i a b c within = absurd (omega arith)
node_in (e ∷ es) (f ∷ fs) (m ∷ ms) (d ∷ ends) zero a b c within = refl
node_in (e ∷ es) (f ∷ fs) (m ∷ ms) (d ∷ ends) (suc i) a b c within = node_in es fs ms ends i (omega arith) (omega arith) (omega arith) (omega arith)
