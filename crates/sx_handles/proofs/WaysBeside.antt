-- The ways beside a block, from a block to the next, and the one of them that is that of a key.
use Rattle.std.proofs.Common.{◌≡◌, ℕ, zero, suc, ◌+◌, ◌-◌, ◌<◌, ◌≤◌, List, [], ◌∷◌, length, map, get_or, Some, sym, ◌∙◌, ap₂, subst, arith}
use Rattle.std.specs.Prelude.{slice_get, slice_index}
use Rattle.sx_spec_strings.specs.Bits.{Bits, AreKeyBits, common_prefix, key_bits}
use Rattle.sx_spec_kinds.specs.Trie.{extents_of}
use Rattle.sx_trie.specs.Tries.{AreRising, delimiter_bits}
use Rattle.sx_handles.specs.Ways.{key_at, key_block, AreWaysBeside, IsWayTo, IsWayOf}
use Rattle.sx_handles.specs.declared.ways.way_node.WayNode.{WayNode}
use Rattle.sx_handles.proofs.Handled.{way_of_nearest}
use Rattle.sx_handles.proofs.Beside.{nearest_above, nearest_below}
use Rattle.sx_handles.proofs.KeyBlocks.{delimiter_is, as_many, key_is}

-- the way above a block is the one below the next
pub ways_go_on : (ds : List Bits) (block : ℕ) (lower upper next : List WayNode) → block < length ds → AreWaysBeside ds block lower upper
    → (block + 1 < length ds → IsWayTo ds (block + 1) next) → AreWaysBeside ds (block + 1) upper next
ways_go_on ds block lower upper next inside ways to = record {
  within = omega arith;
  below = λ some. let e : block ≡ block + 1 - 1 = omega arith in subst (λ n. IsWayTo ds n upper) e (ways.above inside);
  above = to;
}

-- the bits that are read at i
read_at : (ks : List Bits) (i : ℕ) (b : Bits) → slice_get ks i ≡ Some b → b ≡ get_or ks i []
read_at [] i b e = absurd cc
read_at (k ∷ ks) zero b e = cc
read_at (k ∷ ks) (suc i) b e = read_at ks i b e

-- what the bits of a key and of a delimiter share
pub shared_is : (lines : List (List ℕ)) (numbers : List ℕ) → AreRising lines numbers → (key leaf : ℕ) → key < length lines → leaf < length numbers → (v o : Bits)
    → slice_get (map key_bits lines) key ≡ Some v → slice_get (map key_bits lines) (slice_index numbers leaf) ≡ Some o
    → length (common_prefix v o) ≡ length (common_prefix (key_at lines key) (get_or (delimiter_bits lines numbers) leaf []))
shared_is lines numbers rising key leaf key_in leaf_in v o v_is o_is =
    let x = read_at (map key_bits lines) key v v_is ∙ key_is lines key key_in in
    let d = read_at (map key_bits lines) (slice_index numbers leaf) o o_is ∙ key_is lines (slice_index numbers leaf) (rising.inside leaf leaf_in) ∙ sym (delimiter_is lines numbers leaf leaf_in) in
    ap₂ (λ p q. length (common_prefix p q)) x d

module _ (lines : List (List ℕ)) (numbers : List ℕ) (keys : AreKeyBits (delimiter_bits lines numbers)) (key block : ℕ) (is : block ≡ key_block lines numbers key)
    (lower upper : List WayNode) (ways : AreWaysBeside (delimiter_bits lines numbers) block lower upper) (shared : ℕ) where
  abbrev ds : List Bits
  ds = delimiter_bits lines numbers

  -- how many bits the key shares with a delimiter
  abbrev shares : ℕ → ℕ
  shares leaf = length (common_prefix (key_at lines key) (get_or ds leaf []))

  pub way_above : block < length numbers → shared ≡ shares block → (0 < block → shares (block - 1) ≤ shared) → IsWayOf (extents_of ds) (key_at lines key) shared upper
  way_above inside own most =
      let many = as_many lines numbers in
      let x = key_at lines key in
      way_of_nearest ds keys block (omega arith) upper (ways.above (omega arith)) x shared own
      (nearest_above ds keys x block is (λ some. let less = most some in omega arith))

  pub way_below : 0 < block → shared ≡ shares (block - 1) → (block < length numbers → shares block ≤ shared) → IsWayOf (extents_of ds) (key_at lines key) shared lower
  way_below some own most =
      let many = as_many lines numbers in
      let within = ways.within in
      let x = key_at lines key in
      way_of_nearest ds keys (block - 1) (omega arith) lower (ways.below some) x shared own
      (nearest_below ds keys x block is (λ inside. let less = most (omega arith) in omega arith))
