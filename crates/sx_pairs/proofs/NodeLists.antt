-- The pairs of nodes as those of the definitions, and of all nodes.
use Rattle.std.proofs.Common.{◌≡◌, ℕ, zero, suc, ◌+◌, ◌-◌, ◌<◌, ◌≤◌, List, [], ◌∷◌, ◌++◌, length, get_or, take, drop, map, Some, refl, sym, ap, ap₂, subst, ◌∙◌, arith, inl, inr, append_assoc}
use Rattle.std.specs.Prelude.{filter, flat_map}
use Rattle.std.specs.List.{AllByRecursion, enumerate_from}
use Rattle.std.proofs.lemmas.List.{append-nil, take_all, take-take, length-drop, drop-take}
use Rattle.sx_spec_strings.specs.Bits.{Bits, begins_with, is_below, key_bits, tagged}
use Rattle.sx_spec_strings.specs.Ordered.{IsIn, in_order}
use Rattle.sx_spec_kinds.specs.Trie.{extents_of, name_len}
use Rattle.sx_spec_kinds.specs.HollowDistributor.{NodePair as SpecPair, fragment_of, inner_pair, leaf_pair, inner_pairs, leaf_pairs, pairs_of}
use Rattle.sx_spec_kinds.specs.Pairs.{pair, turns_pairs}
use Rattle.sx_spec_kinds.proofs.CountLaws.{under_from}
use Rattle.sx_bits.specs.Pieces.{IsPiece}
use Rattle.sx_trie.specs.Tries.{delimiter_bits}
use Rattle.sx_pairs.specs.declared.turn.NodePair.{NodePair}
use Rattle.sx_pairs.specs.Pairs.{ArePairs, string_turn, inner_pairs_at, leaf_pairs_at, all_inner_pairs, all_leaf_pairs}

-- ---- one node

-- the pairs of the keys that begin with p, of whose fragments `told` makes pairs
abbrev pub pairs_by : (ks : List Bits) (told : Bits → Bits → SpecPair) (pos len : ℕ) (own p : Bits) → List SpecPair
pairs_by ks told pos len own p = map (told own) (in_order is_below (map (fragment_of pos len) (filter (λ k. begins_with k p) ks)))

pub inner_same : (ks extents : List Bits) (tag : ℕ) (e d : Bits) (name extent : ℕ) → name ≡ name_len extents e → extent ≡ length e → e ≡ take extent d → name ≤ extent
    → pairs_by ks (inner_pair tag) name (extent - name) (fragment_of name (extent - name) d) (take name d) ≡ inner_pairs ks extents tag e
inner_same ks extents tag e d name extent n x c le =
    let pos = name_len extents e in
    let sum : name + (extent - name) ≡ extent = omega arith in
    let own : fragment_of name (extent - name) d ≡ drop pos e =
    sym (drop-take name (extent - name) d) ∙ ap (λ m. drop name (take m d)) sum ∙ ap (drop name) (sym c) ∙ ap (λ m. drop m e) n in
    let named : take name d ≡ take pos e = sym (take-take name extent d le) ∙ ap (take name) (sym c) ∙ ap (λ m. take m e) n in
    let len : extent - name ≡ length e - pos = ap₂ ◌-◌ x n in
    λ i. pairs_by ks (inner_pair tag) (n i) (len i) (own i) (named i)

map_same : {A B : Type 0} (f g : A → B) (xs : List A) → ((x : A) → IsIn xs x → f x ≡ g x) → map f xs ≡ map g xs
map_same f g [] each = refl
map_same f g (x ∷ xs) each = ap₂ (λ y ys. y ∷ ys) (each x (inl refl)) (map_same f g xs (λ z i. each z (inr i)))

pub leaf_same : (ks extents : List Bits) (tag : ℕ) (d : Bits) (name extent : ℕ) → name ≡ name_len extents d → ((x : Bits) → IsIn ks x → length x ≤ extent) → length d ≤ extent
    → pairs_by ks (leaf_pair tag) name (extent - name) (fragment_of name (extent - name) d) (take name d) ≡ leaf_pairs ks extents tag d
leaf_same ks extents tag d name extent n short own_short =
    let pos = name_len extents d in
    let rest : (x : Bits) → length x ≤ extent → fragment_of name (extent - name) x ≡ drop pos x =
    λ x within. let size = length-drop name x in take_all (extent - name) (drop name x) (omega arith) ∙ ap (λ m. drop m x) n in
    let visit = filter (λ k. begins_with k (take pos d)) ks in
    let named : take name d ≡ take pos d = ap (λ m. take m d) n in
    let all : map (fragment_of name (extent - name)) visit ≡ map (drop pos) visit =
    map_same (fragment_of name (extent - name)) (drop pos) visit (λ x i. rest x (short x (under_from ks (take pos d) x i).0)) in
    ap₂ (λ own p. pairs_by ks (leaf_pair tag) name (extent - name) own p) (rest d own_short) named
    ∙ ap (λ fs. map (leaf_pair tag (drop pos d)) (in_order is_below fs)) all

-- ---- all nodes

flat_next : (f : ℕ × Bits → List SpecPair) (a : ℕ) (xs : List Bits) (i : ℕ) → i < length xs
    → flat_map f (enumerate_from a (take i xs)) ++ f (a + i, get_or xs i []) ≡ flat_map f (enumerate_from a (take (suc i) xs))
flat_next f a [] i inside = absurd (omega arith)
flat_next f a (x ∷ xs) zero inside = let e : a + 0 ≡ a = omega arith in ap (λ m. f (m, x)) e ∙ sym (append-nil (f (a, x)))
flat_next f a (x ∷ xs) (suc i) inside =
    let e : a + suc i ≡ (a + 1) + i = omega arith in
    append_assoc (f (a, x)) (flat_map f (enumerate_from (a + 1) (take i xs))) (f (a + suc i, get_or xs i []))
    ∙ ap (λ m. f (a, x) ++ (flat_map f (enumerate_from (a + 1) (take i xs)) ++ f (m, get_or xs i []))) e
    ∙ ap (λ ps. f (a, x) ++ ps) (flat_next f (a + 1) xs i (omega arith))

pub flat_one : (f : ℕ × Bits → List SpecPair) (a : ℕ) (xs : List Bits) (i : ℕ) → i < length xs
    → flat_map f (enumerate_from a (take i xs)) ++ f (a + i, get_or xs i []) ≡ flat_map f (enumerate_from a (take (i + 1) xs))
flat_one f a xs i inside =
    let e : suc i ≡ i + 1 = omega arith in
    flat_next f a xs i inside ∙ ap (λ n. flat_map f (enumerate_from a (take n xs))) e

-- the function whose pairs are those of the inner nodes, and of the leaves
abbrev pub inner_of : List (List ℕ) → List ℕ → ℕ × Bits → List SpecPair
inner_of lines numbers t = inner_pairs (map key_bits lines) (extents_of (delimiter_bits lines numbers)) t.0 t.1

abbrev pub leaf_of : List (List ℕ) → List ℕ → ℕ × Bits → List SpecPair
leaf_of lines numbers t = leaf_pairs (map key_bits lines) (extents_of (delimiter_bits lines numbers)) t.0 t.1

pub next_inner : (lines : List (List ℕ)) (numbers : List ℕ) (i : ℕ) → inner_pairs_at lines numbers i ≡ inner_of lines numbers (0 + i, get_or (extents_of (delimiter_bits lines numbers)) i [])
unfolding inner_pairs_at
next_inner lines numbers i =
    let e : i ≡ 0 + i = omega arith in
    ap (λ m. inner_of lines numbers (m, get_or (extents_of (delimiter_bits lines numbers)) i [])) e

pub next_leaf : (lines : List (List ℕ)) (numbers : List ℕ) (tag i : ℕ) → leaf_pairs_at lines numbers tag i ≡ leaf_of lines numbers (tag, get_or (delimiter_bits lines numbers) i [])
unfolding leaf_pairs_at
next_leaf lines numbers tag i = refl

-- those of so many nodes
abbrev pub first_inner : List (List ℕ) → List ℕ → ℕ → List SpecPair
first_inner lines numbers n = flat_map (inner_of lines numbers) (enumerate_from 0 (take n (extents_of (delimiter_bits lines numbers))))

abbrev pub first_leaves : List (List ℕ) → List ℕ → ℕ → ℕ → List SpecPair
first_leaves lines numbers first n = flat_map (leaf_of lines numbers) (enumerate_from first (take n (delimiter_bits lines numbers)))

pub all_inner : (lines : List (List ℕ)) (numbers : List ℕ) (n : ℕ) → length (extents_of (delimiter_bits lines numbers)) ≤ n → first_inner lines numbers n ≡ all_inner_pairs lines numbers
unfolding all_inner_pairs
all_inner lines numbers n over =
    ap (λ xs. flat_map (inner_of lines numbers) (enumerate_from 0 xs)) (take_all n (extents_of (delimiter_bits lines numbers)) over)

pub all_leaves : (lines : List (List ℕ)) (numbers : List ℕ) (first n : ℕ) → length (delimiter_bits lines numbers) ≤ n → first_leaves lines numbers first n ≡ all_leaf_pairs lines numbers first
unfolding all_leaf_pairs
all_leaves lines numbers first n over =
    ap (λ xs. flat_map (leaf_of lines numbers) (enumerate_from first xs)) (take_all n (delimiter_bits lines numbers) over)

pub all_pairs : (lines : List (List ℕ)) (numbers : List ℕ) → all_inner_pairs lines numbers ++ all_leaf_pairs lines numbers (length (extents_of (delimiter_bits lines numbers))) ≡ pairs_of (map key_bits lines) (delimiter_bits lines numbers)
unfolding all_inner_pairs all_leaf_pairs pairs_of
all_pairs lines numbers = refl

-- ---- what is pushed behind pairs

abbrev pub Behind : (lines : List (List ℕ)) (old new : List NodePair) (more : List SpecPair) → Type 0
Behind lines old new more = (before : List SpecPair) → ArePairs lines old before → ArePairs lines new (before ++ more)

pub behind_none : (lines : List (List ℕ)) (old : List NodePair) → Behind lines old old []
behind_none lines old before are = subst (ArePairs lines old) (sym (append-nil before)) are

pub behind_more : (lines : List (List ℕ)) (old so_far new : List NodePair) (first more all : List SpecPair) → Behind lines old so_far first → Behind lines so_far new more → first ++ more ≡ all → Behind lines old new all
behind_more lines old so_far new first more all h k same before are =
    subst (ArePairs lines new) (append_assoc before first more ∙ ap (λ ps. before ++ ps) same) (k (before ++ first) (h before are))

-- ---- what pairs are

pub strings_are : (lines : List (List ℕ)) (ps : List NodePair) (qs : List SpecPair) → ArePairs lines ps qs → map (string_turn lines) ps ≡ map (λ q. pair (tagged (Some q.tag) q.fragment) q.turn) qs
strings_are lines [] [] are = refl
strings_are lines [] (q ∷ qs) are = absurd are
strings_are lines (p ∷ ps) [] are = absurd are
strings_are lines (p ∷ ps) (q ∷ qs) are =
    ap₂ (λ x xs. x ∷ xs)
    (ap₂ pair (ap₂ tagged are.0.tag are.0.fragment) are.0.turn)
    (strings_are lines ps qs are.1)

pub turns_are : (lines : List (List ℕ)) (ps : List NodePair) (ks ds : List Bits) → ArePairs lines ps (pairs_of ks ds) → map (string_turn lines) ps ≡ turns_pairs ks ds
unfolding turns_pairs
turns_are lines ps ks ds are = strings_are lines ps (pairs_of ks ds) are

pub pieces_lie : (lines : List (List ℕ)) (ps : List NodePair) (qs : List SpecPair) → ArePairs lines ps qs → AllByRecursion (λ (p : NodePair). IsPiece lines p.piece) ps
pieces_lie lines [] qs are = tt
pieces_lie lines (p ∷ ps) [] are = absurd are
pieces_lie lines (p ∷ ps) (q ∷ qs) are = (are.0.lies, pieces_lie lines ps qs are.1)

pub as_many_pairs : (lines : List (List ℕ)) (ps : List NodePair) (qs : List SpecPair) → ArePairs lines ps qs → length ps ≡ length qs
as_many_pairs lines [] [] are = refl
as_many_pairs lines [] (q ∷ qs) are = absurd are
as_many_pairs lines (p ∷ ps) [] are = absurd are
as_many_pairs lines (p ∷ ps) (q ∷ qs) are = ap suc (as_many_pairs lines ps qs are.1)
