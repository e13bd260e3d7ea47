-- The inner nodes on the way to a leaf, and on that of a string.
use Rattle.std.specs.Prelude.{◌≡◌, ℕ, suc, ◌-◌, ◌<◌, ◌≤◌, nat_le, true, List, [], length, slice_index_or}
use Rattle.sx_spec_strings.specs.Bits.{Bits, begins_with, key_bits}
use Rattle.sx_spec_kinds.specs.Blocks.{block_of}
use Rattle.sx_spec_kinds.specs.Search.{handle_of}
use Rattle.sx_spec_kinds.specs.Trie.{extents_of}
use Rattle.sx_trie.specs.Tries.{delimiter_bits}
use Rattle.sx_handles.specs.declared.ways.way_node.WayNode.{WayNode}

-- the bits of key number i
abbrev pub key_at : List (List ℕ) → ℕ → Bits
key_at lines i = key_bits (slice_index_or lines i [])

-- the block of key number i: how many delimiters are below it
abbrev pub key_block : (lines : List (List ℕ)) (numbers : List ℕ) (i : ℕ) → ℕ
key_block lines numbers i = block_of (delimiter_bits lines numbers) (key_at lines i)

-- the extent of inner node v
abbrev pub extent_at : List Bits → ℕ → Bits
extent_at extents v = slice_index_or extents v []

-- node i of a way; past its end the root
abbrev pub way_at : List WayNode → ℕ → WayNode
way_at way i = slice_index_or way i (record { node = 0; handle = 0 })

-- The nodes begin with the root, and behind it each has the length of its handle, and these rise.
pub record IsWay (extents : List Bits) (way : List WayNode) : Type 0 where
  pub some : 0 < length way
  pub root : way_at way 0 ≡ record { node = 0; handle = 0 }
  pub inner : (i : ℕ) → 0 < i → i < length way → 0 < (way_at way i).node
  pub inside : (i : ℕ) → i < length way → (way_at way i).node < length extents
  pub handles : (i : ℕ) → 0 < i → i < length way → (way_at way i).handle ≡ length (handle_of extents (extent_at extents (way_at way i).node))
  pub rising : (i : ℕ) → suc i < length way → (way_at way i).handle < (way_at way (suc i)).handle

-- The way leads to a leaf: it has exactly the nodes whose extents are prefixes of the leaf's delimiter.
pub record IsWayTo (delimiters : List Bits) (leaf : ℕ) (nodes : List WayNode) : Type 0 where
  pub way : IsWay (extents_of delimiters) nodes
  pub begins : (i : ℕ) → i < length nodes → begins_with (slice_index_or delimiters leaf []) (extent_at (extents_of delimiters) (way_at nodes i).node) ≡ true
  pub whole : (v : ℕ) → v < length (extents_of delimiters) → begins_with (slice_index_or delimiters leaf []) (extent_at (extents_of delimiters) v) ≡ true → (i : ℕ) × (i < length nodes) × ((way_at nodes i).node ≡ v)

-- The ways lead to the delimiters on both sides of a block, as far as there are some.
pub record AreWaysBeside (delimiters : List Bits) (block : ℕ) (lower upper : List WayNode) : Type 0 where
  pub within : block ≤ length delimiters
  pub below : 0 < block → IsWayTo delimiters (block - 1) lower
  pub above : block < length delimiters → IsWayTo delimiters block upper

-- The way is that of a string, which shares so many bits with it: of the nodes on the way those have a handle or an extent that is a prefix of the string whose handle or extent has at most so many bits, and no node beside the way has such a handle.
pub record IsWayOf (es : List Bits) (x : Bits) (shared : ℕ) (nodes : List WayNode) : Type 0 where
  pub way : IsWay es nodes
  pub long : shared ≤ length x
  pub begins : (i : ℕ) → 0 < i → i < length nodes → (way_at nodes i).handle ≤ shared → begins_with x (handle_of es (extent_at es (way_at nodes i).node)) ≡ true
  pub extents : (i : ℕ) → i < length nodes → begins_with x (extent_at es (way_at nodes i).node) ≡ nat_le (length (extent_at es (way_at nodes i).node)) shared
  pub whole : (v : ℕ) → 0 < v → v < length es → begins_with x (handle_of es (extent_at es v)) ≡ true → (i : ℕ) × (0 < i) × (i < length nodes) × ((way_at nodes i).node ≡ v) × ((way_at nodes i).handle ≤ shared)
