-- The lengths and the prefixes of blocks, block by block.
use Rattle.std.proofs.Common.{◌≡◌, ◌≢◌, ℕ, ◌+◌, ◌-◌, ◌*◌, ◌/◌, ◌%◌, ◌<◌, ◌≤◌, true, List, [], ◌∷◌, ◌++◌, length, take, drop, map, min, replicate, get_or, subst, refl, sym, ◌∙◌, ap, ap₂, arith, inl, inr, Some, None}
use Rattle.std.specs.Int.{div_ceil}
use Rattle.std.specs.Prelude.{slice_get, AllPairs, ◌⊎◌}
use Rattle.std.specs.List.{AllByRecursion, range_with_len}
use Rattle.std.proofs.Math.Nat.{div-eq_of_lt-le}
use Rattle.std.proofs.lemmas.Nat.{div-add-mod'}
use Rattle.std.proofs.lemmas.Bool.{cases_lt}
use Rattle.std.proofs.lemmas.List.{length-append, length-map, length-drop, length-replicate, get_or-map, get_or-replicate, get_or_append_left, get_or-append_right, take_all, take_min, map_push}
use Rattle.std.proofs.lemmas.List.FromFn.{fill_by_all, map-range_with_len_more, length-map-range_with_len, get_or-map-range_with_len}
use Rattle.std.proofs.lemmas.Option.{get_or_from_slice_get}
use Rattle.sx_spec_strings.specs.Bits.{Bits, AreKeyBits, begins_with, common_prefix, common_prefix_of, key_bits, tagged}
use Rattle.sx_spec_strings.proofs.BitLaws.{begins_length, common_begins_left}
use Rattle.sx_spec_kinds.specs.Blocks.{block_count}
use Rattle.sx_spec_kinds.specs.Lcp.{block_prefix, block_prefixes, prefix_lens}
use Rattle.sx_spec_kinds.proofs.LcpLaws.{block_inside, prefixes_differ}
use Rattle.sx_spec_kinds.proofs.NameLaws.{take_of_begins}
use Rattle.sx_bits.specs.declared.pieces.Piece.{Piece}
use Rattle.sx_bits.specs.KeyLists.{Keys, IsKeyList}
use Rattle.sx_bits.specs.Pieces.{IsPiece, piece_string}
use Rattle.sx_bits.proofs.KeyListBits.{key_list_bits}
use Rattle.sx_lcp.specs.declared.parts.LcpParts.{LcpParts}
use Rattle.sx_lcp.specs.Parts.{AreParts, IsPrefixOf, prefix_between}
use Rattle.sx_lcp.proofs.CommonPrefixes.{prefix_is_of_ends}

-- ---- one prefix

-- the piece of a key that is as long as a prefix of it is this prefix
front_piece : (lines : List (List ℕ)) (first to : ℕ) (p : Bits) → first < length lines → to ≡ length p → begins_with (get_or (map key_bits lines) first []) p ≡ true
    → IsPiece lines (record { tag = None; key = first; from = 0; to = to }) × (piece_string lines (record { tag = None; key = first; from = 0; to = to }) ≡ p)
unfolding tagged
front_piece lines first to p inside long begins =
    let key = get_or-map key_bits lines first [] [] inside in
    let starts : begins_with (key_bits (get_or lines first [])) p ≡ true = ap (λ x. begins_with x p) (sym key) ∙ begins in
    let less = begins_length (key_bits (get_or lines first [])) p starts in
    let whole : to - 0 ≡ length p = omega arith in (
      record { key = inside; ordered = omega arith; within = omega arith },
      ap (λ n. take n (key_bits (get_or lines first []))) whole
          ∙ take_of_begins (key_bits (get_or lines first [])) p (length p) starts (omega arith)
          ∙ take_all (length p) p (omega arith),
    )

-- what a view of the first key and one of the last give
pub prefix_from_ends : (keys : Keys) (first after : ℕ) (x y : Bits) (to : ℕ) → IsKeyList keys → first < after → after ≤ length keys.lines
    → slice_get (map key_bits keys.lines) first ≡ Some x → slice_get (map key_bits keys.lines) (after - 1) ≡ Some y → to ≡ length (common_prefix x y)
    → IsPrefixOf keys.lines first after (record { tag = None; key = first; from = 0; to = to })
prefix_from_ends keys first after x y to valid some within front back long =
    let ks = map key_bits keys.lines in
    let many = length-map keys.lines key_bits in
    let x_is : get_or ks first [] ≡ x = get_or_from_slice_get ks first x [] front in
    let y_is : get_or ks (after - 1) [] ≡ y = get_or_from_slice_get ks (after - 1) y [] back in
    let same : prefix_between ks first after ≡ common_prefix x y =
    prefix_is_of_ends ks first after (key_list_bits keys valid) some (omega arith) ∙ ap₂ common_prefix x_is y_is
    in
    let piece = front_piece keys.lines first to (common_prefix x y) (omega arith) long (ap (λ z. begins_with z (common_prefix x y)) x_is ∙ common_begins_left x y) in
    record { lies = piece.0; string = piece.1 ∙ sym same; end = long ∙ ap length (sym same) }

-- ---- counts

-- the whole of a division whose rest is known
ceil_by_parts : (b n q r up : ℕ) → 0 < b → r < b → q * b + r ≡ n → (r ≡ 0) × (up ≡ 0) ⊎ (0 < r) × (up ≡ 1) → q + up ≡ block_count b n
ceil_by_parts b n q r up some small whole rest =
    elim rest [
      | inl (none, no_more) ↦
          let e : (q + up) * b ≡ q * b = rw no_more (omega arith) in
          let f : (q + up + 1) * b ≡ q * b + b = rw no_more (omega arith) in
          sym (div-eq_of_lt-le b (omega arith) (omega arith))
      | inr (left, one_more) ↦
          let e : (q + up) * b ≡ q * b + b = rw one_more (omega arith) in
          let f : (q + up + 1) * b ≡ q * b + b + b = rw one_more (omega arith) in
          sym (div-eq_of_lt-le b (omega arith) (omega arith))
    ]

pub ceil_is_count : (b n : ℕ) → 0 < b → div_ceil n b ≡ block_count b n
ceil_is_count b n some =
    let whole = div-add-mod' n b in
    let small : n % b < b = omega arith in
    ceil_by_parts b n (n / b) (n % b) (min 1 (n % b)) some small whole
    (elim (cases_lt 0 (n % b)) [
      | inl left ↦ inr (left, omega arith)
      | inr none ↦ inl (omega arith, omega arith)
    ])

-- the numbers of a block, over the block's size, are the block
block_of_number : (b j i : ℕ) → j * b ≤ i → i < j * b + b → i / b ≡ j
block_of_number b j i low high = div-eq_of_lt-le b low (omega arith)

-- the prefix of the keys of a block, which may be the last
block_between : (b : ℕ) (ks : List Bits) (j first after : ℕ) → first ≡ j * b → after ≡ min (first + b) (length ks) → prefix_between ks first after ≡ block_prefix b ks j
block_between b ks j first after start stop =
    let left = length-drop first ks in
    let size : after - first ≡ min b (length (drop first ks)) = omega arith in
    ap (λ n. common_prefix_of (take n (drop first ks))) size
    ∙ ap common_prefix_of (take_min b (drop first ks))
    ∙ ap (λ n. common_prefix_of (take b (drop n ks))) start

-- the numbers that a function gives, and one of them again and again
longer_by : (f : ℕ → ℕ) (v m k : ℕ) → ((i : ℕ) → m ≤ i → i < m + k → f i ≡ v) → map f (range_with_len 0 m) ++ replicate k v ≡ map f (range_with_len 0 (m + k))
longer_by f v m k same =
    let front = map f (range_with_len 0 m) in
    let long : length front ≡ m = length-map-range_with_len f 0 m in
    let more : length (replicate k v) ≡ k = length-replicate k v in
    let all : length (front ++ replicate k v) ≡ m + k = length-append front (replicate k v) ∙ ap₂ ◌+◌ long more in
    fill_by_all f (front ++ replicate k v) (m + k) 0 all (λ i inside.
    elim (cases_lt i m) [
      | inl low ↦
          get_or_append_left front (replicate k v) 0 i (omega arith)
          ∙ get_or-map-range_with_len f 0 m i i 0 low (omega arith)
      | inr high ↦
          get_or-append_right front (replicate k v) m i 0 long high
          ∙ get_or-replicate k (i - m) v 0 (omega arith)
          ∙ sym (same i high inside)
    ])

all_push : {X : Type 0} (P : X → Type 0) (xs : List X) (y : X) → AllByRecursion P xs → P y → AllByRecursion P (xs ++ y ∷ [])
all_push P [] y all here = (here, tt)
all_push P (x ∷ xs) y all here = (all.0, all_push P xs y all.1 here)

-- ---- one more block

-- what has been found for so many blocks
pub record AreBlocks (b : ℕ) (lines : List (List ℕ)) (blocks : ℕ) (lens : List ℕ) (pieces : List Piece) : Type 0 where
  pub lengths : lens ≡ map (λ i. length (block_prefix b (map key_bits lines) (i / b))) (range_with_len 0 (min (blocks * b) (length lines)))
  pub all : AllByRecursion (IsPiece lines) pieces
  pub prefixes : map (piece_string lines) pieces ≡ map (block_prefix b (map key_bits lines)) (range_with_len 0 blocks)

pub no_blocks : (b : ℕ) (lines : List (List ℕ)) → AreBlocks b lines 0 [] []
no_blocks b lines =
    let none : min (0 * b) (length lines) ≡ 0 = omega arith in
    record { lengths = rw none refl; all = tt; prefixes = refl }

pub one_more_block : (b : ℕ) (lines : List (List ℕ)) (j first after : ℕ) (lens longer : List ℕ) (so_far : ℕ) (pieces more : List Piece) (piece : Piece) → 0 < b → j < block_count b (length lines)
    → first ≡ j * b → after ≡ min (first + b) (length lines) → AreBlocks b lines j lens pieces → IsPrefixOf lines first after piece
    → so_far ≡ length lens → longer ≡ take after lens ++ replicate (after - so_far) piece.to → more ≡ pieces ++ piece ∷ []
    → AreBlocks b lines (j + 1) longer more
one_more_block b lines j first after lens longer so_far pieces more piece some inside start stop blocks is counted grown pushed =
    let ks = map key_bits lines in
    let f : ℕ → ℕ = λ i. length (block_prefix b ks (i / b)) in
    let many : length ks ≡ length lines = length-map lines key_bits in
    let low = block_inside b (length lines) j some inside in
    let m : min (j * b) (length lines) ≡ first = omega arith in
    let before : lens ≡ map f (range_with_len 0 first) = blocks.lengths ∙ ap (λ n. map f (range_with_len 0 n)) m in
    let long : length lens ≡ first = ap length before ∙ length-map-range_with_len f 0 first in
    let same = block_between b ks j first after start (omega arith) in
    let value : piece.to ≡ length (block_prefix b ks j) = is.end ∙ ap length same in
    let run : map f (range_with_len 0 first) ++ replicate (after - first) piece.to ≡ map f (range_with_len 0 (first + (after - first))) =
    longer_by f piece.to first (after - first)
    (λ i low high. ap (λ k. length (block_prefix b ks k)) (block_of_number b j i (omega arith) (omega arith)) ∙ sym value)
    in
    let next : (j + 1) * b ≡ j * b + b = omega arith in
    let end : first + (after - first) ≡ min ((j + 1) * b) (length lines) = omega arith in
    record {
      lengths =
          grown
          ∙ ap (λ xs. xs ++ replicate (after - so_far) piece.to) (take_all after lens (omega arith) ∙ before)
          ∙ ap (λ n. map f (range_with_len 0 first) ++ replicate (after - n) piece.to) (counted ∙ long)
          ∙ run
          ∙ ap (λ n. map f (range_with_len 0 n)) end;
      all = subst (AllByRecursion (IsPiece lines)) (sym pushed) (all_push (IsPiece lines) pieces piece blocks.all is.lies);
      prefixes =
          ap (map (piece_string lines)) pushed
          ∙ map_push (piece_string lines) pieces piece
          ∙ ap₂ (λ xs x. xs ++ x ∷ []) blocks.prefixes (is.string ∙ same)
          ∙ sym (map-range_with_len_more (block_prefix b ks) 0 j j (omega arith));
    }

-- ---- all blocks

-- the prefixes of all blocks differ
all_differ : (b : ℕ) (ks : List Bits) → 0 < b → AreKeyBits ks → AllPairs (λ x y. x ≢ y) (map (block_prefix b ks) (range_with_len 0 (block_count b (length ks))))
all_differ b ks some keys =
    let f = block_prefix b ks in
    let n = block_count b (length ks) in
    λ i j d less inside same.
    let long = length-map-range_with_len f 0 n in
    let here = get_or-map-range_with_len f 0 n i i d (omega arith) (omega arith) in
    let there = get_or-map-range_with_len f 0 n j j d (omega arith) (omega arith) in
    prefixes_differ b ks i j some keys less (omega arith) (sym here ∙ same ∙ there)

pub all_blocks : (b : ℕ) (keys : Keys) (blocks : ℕ) (parts : LcpParts) → 0 < b → IsKeyList keys → blocks ≡ block_count b (length keys.lines)
    → AreBlocks b keys.lines blocks parts.lengths.items parts.prefixes.items → AreParts b keys.lines parts
unfolding block_prefixes prefix_lens
all_blocks b keys blocks parts some valid count are =
    let ks = map key_bits keys.lines in
    let many : length ks ≡ length keys.lines = length-map keys.lines key_bits in
    let whole = div-add-mod' (length keys.lines + b - 1) b in
    let small : (length keys.lines + b - 1) % b < b = omega arith in
    let product : blocks * b ≡ block_count b (length keys.lines) * b = ap (λ n. n * b) count in
    let every : min (blocks * b) (length keys.lines) ≡ length ks = omega arith in
    let number : blocks ≡ block_count b (length ks) = count ∙ ap (block_count b) (sym many) in
    let prefixes : map (piece_string keys.lines) parts.prefixes.items ≡ block_prefixes b ks =
    are.prefixes ∙ ap (λ n. map (block_prefix b ks) (range_with_len 0 n)) number
    in
    record {
      lengths = are.lengths ∙ ap (λ n. map (λ i. length (block_prefix b ks (i / b))) (range_with_len 0 n)) every;
      pieces = are.all;
      prefixes = prefixes;
      differ = subst (AllPairs (λ x y. x ≢ y)) (sym prefixes) (all_differ b ks some (key_list_bits keys valid));
    }
