-- Pairs of a hollow trie, by pieces of the keys, and the pairs of one node.
use Rattle.std.specs.Prelude.{◌≡◌, ℕ, zero, suc, ◌-◌, ◌<◌, ◌≤◌, nat_lt, Bool, true, false, if◌then◌else◌, List, [], length, map, flat_map, Some, slice_index_or}
use Rattle.std.specs.List.{AllZip, enumerate_from}
use Rattle.sx_spec_strings.specs.Bits.{Bits, key_bits, common_prefix, is_below}
use Rattle.sx_spec_strings.specs.Ordered.{in_order}
use Rattle.sx_spec_kinds.specs.HollowDistributor.{NodePair as SpecPair, follow, turn_left, turn_right, fragment_of, inner_turn, leaf_turn, visitors, inner_pairs, leaf_pairs}
use Rattle.sx_spec_kinds.specs.Trie.{extents_of, name_len}
use Rattle.sx_spec_kinds.specs.Pairs.{pair}
use Rattle.sx_bits.specs.Pieces.{IsPiece, piece_bits, piece_string}
use Rattle.sx_trie.specs.Tries.{delimiter_bits}
use Rattle.sx_pairs.specs.declared.turn.Turn.{Turn}
use Rattle.sx_pairs.specs.declared.turn.Turn.TheVariants.{Follow, Left, Right}
use Rattle.sx_pairs.specs.declared.turn.NodePair.{NodePair}
use Rattle.sx_pairs.specs.declared.nodes.VisitedNode.{VisitedNode}

-- the number of a turn
abbrev pub turn_number : Turn → ℕ
turn_number Follow = follow
turn_number Left = turn_left
turn_number Right = turn_right

-- the piece names a fragment of the lines and has the tag, and the turn is that of the pair
pub record IsPairOf (lines : List (List ℕ)) (p : NodePair) (q : SpecPair) : Type 0 where
  pub lies : IsPiece lines p.piece
  pub tag : p.piece.tag ≡ Some q.tag
  pub fragment : piece_bits lines p.piece ≡ q.fragment
  pub turn : turn_number p.turn ≡ q.turn

-- one for each, in order
abbrev pub ArePairs : List (List ℕ) → List NodePair → List SpecPair → Type 0
ArePairs lines = AllZip (IsPairOf lines)

-- the string that a pair's piece names, with the number of the turn
abbrev pub string_turn : List (List ℕ) → NodePair → Bits × ℕ
string_turn lines p = pair (piece_string lines p.piece) (turn_number p.turn)

-- ---- the pairs of a node

-- the bits of key number i
abbrev pub key_at : List (List ℕ) → ℕ → Bits
key_at lines i = slice_index_or (map key_bits lines) i []

-- the fragment of a string at a node
abbrev pub node_fragment : VisitedNode → Bits → Bits
node_fragment n x = fragment_of n.name (n.extent - n.name) x

-- that of its delimiters
abbrev pub own_fragment : List (List ℕ) → VisitedNode → Bits
own_fragment lines n = node_fragment n (key_at lines n.key)

-- the turn of a fragment
abbrev pub node_turn : (leaf : Bool) (own f : Bits) → ℕ
node_turn true own f = leaf_turn own f
node_turn false own f = inner_turn own f

abbrev pub node_pair : List (List ℕ) → VisitedNode → Bits → SpecPair
node_pair lines n f = record { tag = n.tag; fragment = f; turn = node_turn n.leaf (own_fragment lines n) f }

-- the fragments of the keys that visit the node
abbrev pub node_fragments : List (List ℕ) → VisitedNode → List Bits
node_fragments lines n = map (node_fragment n) (visitors (map key_bits lines) n.name (key_at lines n.key))

-- its pairs, by these in order
unfoldable pub node_pairs : List (List ℕ) → VisitedNode → List SpecPair
node_pairs lines n = map (node_pair lines n) (in_order is_below (node_fragments lines n))

-- a key of the lines stands for the node's delimiters, and has the name
pub record IsVisited (lines : List (List ℕ)) (n : VisitedNode) : Type 0 where
  pub key : n.key < length lines
  pub ordered : n.name ≤ n.extent
  pub named : n.name ≤ length (key_at lines n.key)

-- ---- the pairs of all nodes

-- those of inner node i of the trie of the lines with these numbers
unfoldable pub inner_pairs_at : (lines : List (List ℕ)) (numbers : List ℕ) (i : ℕ) → List SpecPair
inner_pairs_at lines numbers i =
    let extents = extents_of (delimiter_bits lines numbers) in
    inner_pairs (map key_bits lines) extents i (slice_index_or extents i [])

-- those of leaf j, which has this tag
unfoldable pub leaf_pairs_at : (lines : List (List ℕ)) (numbers : List ℕ) (tag j : ℕ) → List SpecPair
leaf_pairs_at lines numbers tag j =
    let delimiters = delimiter_bits lines numbers in
    leaf_pairs (map key_bits lines) (extents_of delimiters) tag (slice_index_or delimiters j [])

-- those of all inner nodes
unfoldable pub all_inner_pairs : (lines : List (List ℕ)) (numbers : List ℕ) → List SpecPair
all_inner_pairs lines numbers =
    let extents = extents_of (delimiter_bits lines numbers) in
    flat_map (λ (i, e). inner_pairs (map key_bits lines) extents i e) (enumerate_from 0 extents)

-- those of all leaves, of which the first has this tag
unfoldable pub all_leaf_pairs : (lines : List (List ℕ)) (numbers : List ℕ) (first : ℕ) → List SpecPair
all_leaf_pairs lines numbers first =
    let delimiters = delimiter_bits lines numbers in
    let extents = extents_of delimiters in
    flat_map (λ (i, d). leaf_pairs (map key_bits lines) extents i d) (enumerate_from first delimiters)

-- ---- names

-- the length of the name of inner node i
abbrev pub name_at : (lines : List (List ℕ)) (numbers : List ℕ) (i : ℕ) → ℕ
name_at lines numbers i =
    let extents = extents_of (delimiter_bits lines numbers) in name_len extents (slice_index_or extents i [])

-- how many bits delimiter j shares with the one before it, and one bit more; 0 for the first
abbrev pub bits_before : List Bits → ℕ → ℕ
bits_before ds zero = 0
bits_before ds (suc j) = suc (length (common_prefix (slice_index_or ds j []) (slice_index_or ds (suc j) [])))

-- how many it shares with the one after it, and one bit more; 0 for the last
abbrev pub bits_after : List Bits → ℕ → ℕ
bits_after ds j =
    if nat_lt (suc j) (length ds) then suc (length (common_prefix (slice_index_or ds j []) (slice_index_or ds (suc j) []))) else 0
