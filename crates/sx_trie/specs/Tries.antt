-- What a trie holds, and of which keys it is the trie.
use Rattle.std.specs.Prelude.{◌≡◌, ℕ, ◌+◌, ◌^◌, ◌<◌, ◌≤◌, List, [], length, map, slice_index, slice_index_or}
use Rattle.sx_spec_strings.specs.Bits.{Bits, AreKeyBits, key_bits}
use Rattle.sx_spec_kinds.specs.Trie as spec
use Rattle.sx_trie.specs.declared.nodes.Node.{Node}
use Rattle.sx_trie.specs.declared.nodes.Entry.{Entry}
use Rattle.sx_trie.specs.declared.exits.Exit.{Exit}
use Rattle.sx_trie.specs.declared.exits.Place.{Place}
use Rattle.sx_trie.specs.declared.exits.Place.TheVariants.{Inner, Leaf}

-- a node as the definitions have it
abbrev pub node_of : Node → spec.Node
node_of n = record { extent = n.extent; first = n.first; middle = n.middle; after = n.after }

abbrev pub place_of : Place → spec.Place
place_of (Inner i) = spec.inner i
place_of (Leaf j) = spec.leaf j

abbrev pub exit_of : Exit → spec.Exit
exit_of e = record { place = place_of e.place; right = e.right }

-- the key numbers of the delimiters, the inner nodes in preorder, and the lengths of their names
pub record Contents : Type 0 where
  pub delimiters : List ℕ
  pub nodes : List spec.Node
  pub names : List ℕ

abbrev pub contents_of : List ℕ → List Entry → Contents
contents_of delimiters entries = record {
  delimiters = delimiters;
  nodes = map (λ e. node_of e.node) entries;
  names = map (λ e. e.name) entries;
}

-- the bits of the keys with these numbers
abbrev pub delimiter_bits : List (List ℕ) → List ℕ → List Bits
delimiter_bits lines numbers = map (λ i. key_bits (slice_index_or lines i [])) numbers

-- numbers of lines, strictly rising
pub record AreRising (lines : List (List ℕ)) (numbers : List ℕ) : Type 0 where
  pub inside : (i : ℕ) → i < length numbers → slice_index numbers i < length lines
  pub rising : (i : ℕ) → i + 1 < length numbers → slice_index numbers i < slice_index numbers (i + 1)

-- the trie of the delimiters that it holds, which are keys of the list
pub record IsTrieOf (lines : List (List ℕ)) (t : Contents) : Type 0 where
  pub rising : AreRising lines t.delimiters
  pub keys : AreKeyBits (delimiter_bits lines t.delimiters)
  pub nodes : t.nodes ≡ spec.nodes_of (delimiter_bits lines t.delimiters)
  pub names : t.names ≡ map (spec.name_len (spec.extents_of (delimiter_bits lines t.delimiters))) (spec.extents_of (delimiter_bits lines t.delimiters))

-- there are few leaves and nodes, and each name but the root's ends within its extent and has a bit
pub record IsFit (t : Contents) : Type 0 where
  pub leaves : length t.delimiters < 2 ^ 32
  pub few : length t.nodes < 2 ^ 32
  pub names : (i : ℕ) → 1 ≤ i → i < length t.nodes → (1 ≤ slice_index t.names i) × (slice_index t.names i ≤ (spec.node_at t.nodes i).extent)

-- the place is a node or a leaf of the trie
abbrev pub IsPlaceOf : Contents → Place → Type 0
IsPlaceOf t (Inner i) = i < length t.nodes
IsPlaceOf t (Leaf j) = j < length t.delimiters

-- the nodes of the trie of these strings, with their names
pub record AreEntriesOf (ds : List Bits) (entries : List Entry) : Type 0 where
  pub nodes : map (λ e. node_of e.node) entries ≡ spec.nodes_of ds
  pub names : map (λ e. e.name) entries ≡ map (spec.name_len (spec.extents_of ds)) (spec.extents_of ds)
