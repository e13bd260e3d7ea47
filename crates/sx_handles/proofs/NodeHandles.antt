-- The nodes of the trie of delimiters by keys, and their handles.
use Rattle.std.proofs.Common.{◌≡◌, ℕ, zero, suc, ◌+◌, ◌-◌, ◌<◌, ◌≤◌, true, false, List, [], ◌∷◌, ◌++◌, length, get_or, take, map, None, refl, sym, ap, ap₂, subst, ◌∙◌, arith}
use Rattle.std.specs.Prelude.{slice_index, slice_index_or, count_by}
use Rattle.std.specs.List.{AllByRecursion}
use Rattle.std.proofs.lemmas.List.{length-map, map-append, get_or-map, take_all, take_more}
use Rattle.sx_spec_strings.specs.Bits.{Bits, AreKeyBits, begins_with, is_below, key_bits, tagged}
use Rattle.sx_spec_strings.specs.Ordered.{IsIn}
use Rattle.sx_spec_strings.proofs.BitLaws.{begins_length}
use Rattle.sx_spec_kinds.specs.Fattest.{fattest}
use Rattle.sx_spec_kinds.specs.Search.{handle_of, handles_of}
use Rattle.sx_spec_kinds.specs.Trie.{Node, no_node, node_at, node_of, extents_of, name_len, parent_len}
use Rattle.sx_spec_kinds.proofs.NameLaws.{in_at, at_in, take_of_begins, handle_fattest, handle_of_lem, handle_size}
use Rattle.sx_spec_kinds.proofs.TrieLaws.{parts_of_extent, extents_trie}
use Rattle.sx_spec_kinds.proofs.ChildLaws.{begins_longer}
use Rattle.sx_bits.specs.Pieces.{IsPiece, piece_string}
use Rattle.sx_bits.specs.declared.pieces.Piece.{Piece}
use Rattle.sx_trie.specs.Tries.{Contents, IsTrieOf, delimiter_bits}
use Rattle.sx_trie.proofs.Delimiters.{in_range, range_of}
use Rattle.sx_handles.specs.Ways.{extent_at, key_at}
use Rattle.sx_handles.proofs.OnWay.{parent_at}

pub as_many : (lines : List (List ℕ)) (numbers : List ℕ) → length (delimiter_bits lines numbers) ≡ length numbers
as_many lines numbers = length-map numbers (λ n. key_bits (slice_index_or lines n []))

-- the first delimiter under a node begins with its extent
first_under : (ds : List Bits) → AreKeyBits ds → (e : Bits) → IsIn (extents_of ds) e → (count_by (λ d. is_below d e) ds < length ds) × (begins_with (get_or ds (count_by (λ d. is_below d e) ds) []) e ≡ true)
first_under ds keys e there =
    let parts = parts_of_extent ds e keys there in
    let at = at_in ds parts.left parts.left_there in
    let inside = at.1 in
    let b : begins_with (get_or ds at.0 []) e ≡ true =
    subst (λ (q : Bits). begins_with q e ≡ true) (sym at.2) (begins_longer parts.left e false parts.left_begins) in
    let (low, high) = range_of ds keys e at.0 inside b in
    (omega arith, in_range ds keys e (count_by (λ d. is_below d e) ds) (omega arith) (omega arith) (omega arith))

pub extent_first : (ds : List Bits) (e : Bits) → ((node_of ds e).extent ≡ length e) × ((node_of ds e).first ≡ count_by (λ d. is_below d e) ds)
unfolding node_of
extent_first ds e = (refl, refl)

-- what a trie says of a node
pub record NodeIs (lines : List (List ℕ)) (numbers : List ℕ) (i : ℕ) (n : Node) : Type 0 where
  pub inside : i < length (extents_of (delimiter_bits lines numbers))
  pub size : n.extent ≡ length (extent_at (extents_of (delimiter_bits lines numbers)) i)
  pub whole : n ≡ node_of (delimiter_bits lines numbers) (extent_at (extents_of (delimiter_bits lines numbers)) i)
  pub leaf : n.first < length numbers
  pub there : slice_index numbers n.first < length lines
  pub begins : begins_with (key_at lines (slice_index numbers n.first)) (extent_at (extents_of (delimiter_bits lines numbers)) i) ≡ true

module _ (lines : List (List ℕ)) (t : Contents) (built : IsTrieOf lines t) where
  abbrev own : List Bits
  own = delimiter_bits lines t.delimiters

  pub nodes_are : length t.nodes ≡ length (extents_of own)
  nodes_are = ap length built.nodes ∙ length-map (extents_of own) (node_of own)

  pub name_is : (i : ℕ) → i < length t.nodes → slice_index t.names i ≡ name_len (extents_of own) (extent_at (extents_of own) i)
  name_is i inside =
      let all = nodes_are in
      ap (λ ns. slice_index ns i) built.names
      ∙ get_or-map (name_len (extents_of own)) (extents_of own) i [] 0 (omega arith)

  pub node_is : (i : ℕ) (n : Node) → i < length t.nodes → n ≡ node_at t.nodes i → NodeIs lines t.delimiters i n
  node_is i n inside is =
      let all = nodes_are in
      let e = extent_at (extents_of own) i in
      let i_in : i < length (extents_of own) = omega arith in
      let here : n ≡ node_of own e = is ∙ ap (λ ns. node_at ns i) built.nodes ∙ get_or-map (node_of own) (extents_of own) i [] no_node i_in in
      let size : n.extent ≡ length e = ap (λ (v : Node). v.extent) here ∙ (extent_first own e).0 in
      let first : n.first ≡ count_by (λ d. is_below d e) own = ap (λ (v : Node). v.first) here ∙ (extent_first own e).1 in
      let under = first_under own built.keys e (in_at (extents_of own) i i_in) in
      let many = as_many lines t.delimiters in
      let under_in = under.0 in
      let leaf : n.first < length t.delimiters = omega arith in
      let d = key_at lines (slice_index t.delimiters n.first) in
      let d_is : get_or own (count_by (λ d. is_below d e) own) [] ≡ d =
      ap (λ m. get_or own m []) (sym first) ∙ get_or-map (λ m. key_at lines m) t.delimiters n.first 0 [] leaf in
      record {
        inside = i_in;
        size = size;
        whole = here;
        leaf = leaf;
        there = built.rising.inside n.first leaf;
        begins = subst (λ (q : Bits). begins_with q e ≡ true) d_is under.1;
      }

  pub node_among : (numbers : List ℕ) → t.delimiters ≡ numbers → (i : ℕ) (n : Node) → i < length t.nodes → n ≡ node_at t.nodes i → NodeIs lines numbers i n
  node_among numbers same i n inside is = subst (λ ns. NodeIs lines ns i n) same (node_is i n inside is)

  -- the length of a handle, as a trie tells it
  pub record IsHandle (numbers : List ℕ) (i len : ℕ) (key : ℕ) : Type 0 where
    pub within : len ≤ length (key_at lines key)
    pub bits : take len (key_at lines key) ≡ handle_of (extents_of (delimiter_bits lines numbers)) (extent_at (extents_of (delimiter_bits lines numbers)) i)

  handle_is : (i : ℕ) (n : Node) (len : ℕ) → 1 ≤ i → i < length t.nodes → n ≡ node_at t.nodes i → len ≡ fattest (slice_index t.names i - 1) (node_at t.nodes i).extent → IsHandle t.delimiters i len (slice_index t.delimiters n.first)
  handle_is i n len some inside is fat =
      let es = extents_of own in
      let e = extent_at es i in
      let node = node_is i n inside is in
      let name : slice_index t.names i - 1 ≡ parent_len es e = ap (λ m. m - 1) (name_is i inside) in
      let size : (node_at t.nodes i).extent ≡ length e = ap (λ (v : Node). v.extent) (sym is) ∙ node.size in
      let len_is : len ≡ handle_size es e = fat ∙ ap₂ fattest name size in
      let most = (handle_fattest es e (parent_at es (extents_trie own built.keys) i some node.inside)).within in
      let d = key_at lines (slice_index t.delimiters n.first) in
      let long = begins_length d e node.begins in
      record {
        within = omega arith;
        bits = take_of_begins d e len node.begins (omega arith) ∙ ap (λ m. take m e) len_is ∙ sym (handle_of_lem es e);
      }

  handle_among : (numbers : List ℕ) → t.delimiters ≡ numbers → (i : ℕ) (n : Node) (len : ℕ) → 1 ≤ i → i < length t.nodes → n ≡ node_at t.nodes i → len ≡ fattest (slice_index t.names i - 1) (node_at t.nodes i).extent → IsHandle numbers i len (slice_index numbers n.first)
  handle_among numbers same i n len some inside is fat = subst (λ ns. IsHandle ns i len (slice_index ns n.first)) same (handle_is i n len some inside is fat)

  -- the handle is a piece of the first key under the node
  module _ (numbers : List ℕ) (same : t.delimiters ≡ numbers) (i : ℕ) (n : Node) (len : ℕ) (some : 1 ≤ i) (inside : i < length t.nodes) (is : n ≡ node_at t.nodes i)
      (fat : len ≡ fattest (slice_index t.names i - 1) (node_at t.nodes i).extent) where
    pub handle_piece : IsPiece lines (record { tag = None; key = slice_index numbers n.first; from = 0; to = len })
    handle_piece =
        let node = node_among numbers same i n inside is in
        let h = handle_among numbers same i n len some inside is fat in
        record { key = node.there; ordered = omega arith; within = h.within }

    pub handle_string : piece_string lines (record { tag = None; key = slice_index numbers n.first; from = 0; to = len })
        ≡ handle_of (extents_of (delimiter_bits lines numbers)) (extent_at (extents_of (delimiter_bits lines numbers)) i)
    unfolding tagged
    handle_string =
        let all : len - 0 ≡ len = omega arith in
        ap (λ m. take m (key_at lines (slice_index numbers n.first))) all ∙ (handle_among numbers same i n len some inside is fat).bits

-- ---- all handles

all_push : {X : Type 0} (P : X → Type 0) (xs : List X) (x : X) → AllByRecursion P xs → P x → AllByRecursion P (xs ++ x ∷ [])
all_push P [] x all here = (here, tt)
all_push P (y ∷ xs) x all here = (all.0, all_push P xs x all.1 here)

-- those of the nodes before node i
pub record AreHandles (lines : List (List ℕ)) (es : List Bits) (i : ℕ) (pieces : List Piece) : Type 0 where
  pub lie : AllByRecursion (IsPiece lines) pieces
  pub strings : map (piece_string lines) pieces ≡ take (i - 1) (handles_of es)

pub no_handle : (lines : List (List ℕ)) (es : List Bits) (pieces : List Piece) → pieces ≡ [] → AreHandles lines es 1 pieces
no_handle lines es pieces none =
    subst (AreHandles lines es 1) (sym none) (record { lie = tt; strings = refl })

handle_behind : (es : List Bits) (i : ℕ) → 1 ≤ i → i < length es → get_or (handles_of es) (i - 1) [] ≡ handle_of es (extent_at es i)
handle_behind [] i some inside = absurd (omega arith)
handle_behind (r ∷ rest) zero some inside = absurd (omega arith)
handle_behind (r ∷ rest) (suc i) some inside =
    let e : suc i - 1 ≡ i = omega arith in
    ap (λ n. get_or (handles_of (r ∷ rest)) n []) e ∙ get_or-map (handle_of (r ∷ rest)) rest i [] [] (omega arith)

pub length-handles_of : (es : List Bits) → length (handles_of es) ≡ length es - 1
length-handles_of [] = refl
length-handles_of (r ∷ rest) = let size = length-map rest (handle_of (r ∷ rest)) in omega arith

pub next_handle : (lines : List (List ℕ)) (es : List Bits) (i : ℕ) (pieces more : List Piece) (piece : Piece) → 1 ≤ i → i < length es → AreHandles lines es i pieces → IsPiece lines piece
    → piece_string lines piece ≡ handle_of es (extent_at es i) → more ≡ pieces ++ piece ∷ [] → AreHandles lines es (i + 1) more
next_handle lines es i pieces more piece some inside before lies is pushed =
    let size = length-handles_of es in
    let e : i + 1 - 1 ≡ i - 1 + 1 = omega arith in
    let all : AreHandles lines es (i + 1) (pieces ++ piece ∷ []) = record {
      lie = all_push (IsPiece lines) pieces piece before.lie lies;
      strings =
          map-append (piece_string lines) pieces (piece ∷ [])
          ∙ ap₂ (λ ss s. ss ++ s ∷ []) before.strings (is ∙ sym (handle_behind es i some inside))
          ∙ sym (take_more (handles_of es) (i - 1) [] (omega arith))
          ∙ ap (λ n. take n (handles_of es)) (sym e);
    } in
    subst (AreHandles lines es (i + 1)) (sym pushed) all

pub all_handles : (lines : List (List ℕ)) (es : List Bits) (i : ℕ) (pieces : List Piece) → length es ≤ i → AreHandles lines es i pieces → map (piece_string lines) pieces ≡ handles_of es
all_handles lines es i pieces past before =
    let size = length-handles_of es in
    before.strings ∙ take_all (i - 1) (handles_of es) (omega arith)

pub nodes_among : (lines : List (List ℕ)) (t : Contents) → IsTrieOf lines t → (numbers : List ℕ) → t.delimiters ≡ numbers → length t.nodes ≡ length (extents_of (delimiter_bits lines numbers))
nodes_among lines t built numbers same =
    nodes_are lines t built ∙ ap (λ ns. length (extents_of (delimiter_bits lines ns))) same
