-- Which keys are misled, one after the other.
use Rattle.std.proofs.Common.{◌≡◌, ℕ, zero, suc, ◌+◌, ◌-◌, ◌<◌, ◌≤◌, true, false, not, List, [], ◌∷◌, ◌++◌, length, get_or, map, take, Option, Some, None, refl, sym, ap, subst, ◌∙◌, arith, inl, inr}
use Rattle.std.specs.Prelude.{filter, slice_get}
use Rattle.std.specs.List.{enumerate_from, slice_index}
use Rattle.std.proofs.lemmas.Bool.{cases_Bool}
use Rattle.std.proofs.lemmas.List.{get_or-map, length-map, map-append, take_all}
use Rattle.std.proofs.lemmas.Option.{get_or_from_slice_get}
use Rattle.sx_spec_strings.specs.Bits.{Bits, key_bits, common_prefix}
use Rattle.sx_spec_kinds.specs.Blocks.{block_of}
use Rattle.sx_spec_kinds.specs.Trie.{extents_of, node_at}
use Rattle.sx_spec_kinds.specs.Zfast.{HandleMap, Corrected as SpecCorrected, probed_search_of, false_probes, is_block, is_misled, misled_keys, corrections_of, block_from, code_of}
use Rattle.sx_trie.specs.Tries.{Contents, IsTrieOf, delimiter_bits}
use Rattle.sx_handles.specs.Ways.{key_at}
use Rattle.sx_zfast.specs.Corrected.{corrected_as, correction_of}
use Rattle.sx_zfast.specs.declared.correcting.Corrected.{Corrected}
use Rattle.sx_zfast.proofs.MemoLaws.{same_front}
use Rattle.sx_zfast.proofs.ProbeStages.{lens_in}

-- ---- one key

-- the bits that are read of a key
pub view_bits : (lines : List (List ℕ)) (i : ℕ) (x : Bits) → i < length lines → slice_get (map key_bits lines) i ≡ Some x → x ≡ key_at lines i
view_bits lines i x inside read =
    sym (get_or_from_slice_get (map key_bits lines) i x [] read) ∙ get_or-map key_bits lines i [] [] inside

-- the code of a key
pub code_read : (lines : List (List ℕ)) (ds : List Bits) (codes : List ℕ) (i d code : ℕ) → i < length lines → codes ≡ map (code_of ds) (map key_bits lines) → code ≡ get_or codes i d → code ≡ code_of ds (key_at lines i)
code_read lines ds codes i d code inside are read =
    let size = length-map lines key_bits in
    read
    ∙ ap (λ (cs : List ℕ). get_or cs i d) are
    ∙ get_or-map (code_of ds) (map key_bits lines) i [] d (omega arith)
    ∙ ap (code_of ds) (get_or-map key_bits lines i [] [] inside)

pub codes_count : (lines : List (List ℕ)) (ds : List Bits) (codes : List ℕ) → codes ≡ map (code_of ds) (map key_bits lines) → length codes ≡ length lines
codes_count lines ds codes are =
    ap length are ∙ length-map (map key_bits lines) (code_of ds) ∙ length-map lines key_bits

-- whether a key is misled, by the node at which its search ends
pub misled_is : (m : HandleMap) (lines : List (List ℕ)) (t : Contents) (x : Bits) (v block : ℕ) (found : Option ℕ) → IsTrieOf lines t → v ≡ (probed_search_of m (lens_in t.nodes) x).node → found ≡ block_from (node_at t.nodes v) (code_of (delimiter_bits lines t.delimiters) x) x → block ≡ block_of (delimiter_bits lines t.delimiters) x → is_misled m (delimiter_bits lines t.delimiters) x ≡ not (is_block block found)
unfolding is_misled
misled_is m lines t x v block found built ends finds stands =
    let ds = delimiter_bits lines t.delimiters in
    rw (finds, ends, stands, built.nodes) refl

-- a key that isn't misled
pub none_corrected : (m : HandleMap) (ds : List Bits) (i : ℕ) (x : Bits) → is_misled m ds x ≡ false → None ≡ correction_of m ds i x
unfolding correction_of
none_corrected m ds i x right = rw right refl

-- and one that is
pub some_corrected : (m : HandleMap) (ds : List Bits) (i : ℕ) (x : Bits) (probe block : ℕ) → is_misled m ds x ≡ true → probe ≡ slice_index (false_probes m (extents_of ds) x) 0 → block ≡ block_of ds x → Some (record { rank = i; probe = probe; block = block }) ≡ correction_of m ds i x
unfolding correction_of
some_corrected m ds i x probe block misled first stands = rw (misled, first, stands) refl

-- ---- all keys

correction : (m : HandleMap) (ds : List Bits) → ℕ × Bits → SpecCorrected
correction m ds t = record { rank = t.0; probe = slice_index (false_probes m (extents_of ds) t.1) 0; block = block_of ds t.1 }

-- the misled keys among some, of which the first has number a
misled_from : (m : HandleMap) (ds : List Bits) (a : ℕ) (ks : List Bits) → List SpecCorrected
misled_from m ds a ks = map (correction m ds) (filter (λ t. is_misled m ds t.1) (enumerate_from a ks))

-- behind these
with_one : List SpecCorrected → Option SpecCorrected → List SpecCorrected
with_one cs None = cs
with_one cs (Some c) = cs ++ c ∷ []

with_first : (c : SpecCorrected) (cs : List SpecCorrected) (o : Option SpecCorrected) → c ∷ with_one cs o ≡ with_one (c ∷ cs) o
unfolding with_one
with_first c cs None = refl
with_first c cs (Some d) = refl

misled_first : (m : HandleMap) (ds : List Bits) (a : ℕ) (x : Bits) (ks : List Bits) → is_misled m ds x ≡ true → misled_from m ds a (x ∷ ks) ≡ correction m ds (a, x) ∷ misled_from m ds (a + 1) ks
unfolding misled_from
misled_first m ds a x ks e = rw e refl

right_first : (m : HandleMap) (ds : List Bits) (a : ℕ) (x : Bits) (ks : List Bits) → is_misled m ds x ≡ false → misled_from m ds a (x ∷ ks) ≡ misled_from m ds (a + 1) ks
unfolding misled_from
right_first m ds a x ks e = rw e refl

misled_nil : (m : HandleMap) (ds : List Bits) (a : ℕ) → misled_from m ds a [] ≡ []
unfolding misled_from
misled_nil m ds a = refl

one_misled : (m : HandleMap) (ds : List Bits) (a : ℕ) (x : Bits) → is_misled m ds x ≡ true → correction_of m ds a x ≡ Some (correction m ds (a, x))
unfolding correction_of correction
one_misled m ds a x e = rw e refl

one_right : (m : HandleMap) (ds : List Bits) (a : ℕ) (x : Bits) → is_misled m ds x ≡ false → correction_of m ds a x ≡ None
unfolding correction_of
one_right m ds a x e = rw e refl

one_behind : (m : HandleMap) (ds : List Bits) (a : ℕ) (c : SpecCorrected) → with_one (misled_from m ds a []) (Some c) ≡ c ∷ []
unfolding with_one
one_behind m ds a c = ap (λ (cs : List SpecCorrected). cs ++ c ∷ []) (misled_nil m ds a)

none_behind : (m : HandleMap) (ds : List Bits) (a : ℕ) → with_one (misled_from m ds a []) None ≡ []
unfolding with_one
none_behind m ds a = misled_nil m ds a

next_from : (m : HandleMap) (ds : List Bits) (a : ℕ) (ks : List Bits) (i : ℕ) → i < length ks → with_one (misled_from m ds a (take i ks)) (correction_of m ds (a + i) (get_or ks i [])) ≡ misled_from m ds a (take (suc i) ks)
next_from m ds a [] i inside = absurd (omega arith)
next_from m ds a (x ∷ ks) zero inside =
    let e : a + 0 ≡ a = omega arith in
    elim (cases_Bool (is_misled m ds x)) [
      | inl bad ↦
          ap (λ n. with_one (misled_from m ds a []) (correction_of m ds n x)) e
          ∙ ap (with_one (misled_from m ds a [])) (one_misled m ds a x bad)
          ∙ one_behind m ds a (correction m ds (a, x))
          ∙ sym (misled_first m ds a x [] bad ∙ ap (λ (cs : List SpecCorrected). correction m ds (a, x) ∷ cs) (misled_nil m ds (a + 1)))
      | inr right ↦
          ap (λ n. with_one (misled_from m ds a []) (correction_of m ds n x)) e
          ∙ ap (with_one (misled_from m ds a [])) (one_right m ds a x right)
          ∙ none_behind m ds a
          ∙ sym (right_first m ds a x [] right ∙ misled_nil m ds (a + 1))
    ]
next_from m ds a (x ∷ ks) (suc i) inside =
    let e : a + suc i ≡ (a + 1) + i = omega arith in
    let o = correction_of m ds ((a + 1) + i) (get_or ks i []) in
    let rest = next_from m ds (a + 1) ks i (omega arith) in
    ap (λ n. with_one (misled_from m ds a (x ∷ take i ks)) (correction_of m ds n (get_or ks i []))) e
    ∙ elim (cases_Bool (is_misled m ds x)) [
      | inl bad ↦
          ap (λ (cs : List SpecCorrected). with_one cs o) (misled_first m ds a x (take i ks) bad)
          ∙ sym (with_first (correction m ds (a, x)) (misled_from m ds (a + 1) (take i ks)) o)
          ∙ ap (λ (cs : List SpecCorrected). correction m ds (a, x) ∷ cs) rest
          ∙ sym (misled_first m ds a x (take (suc i) ks) bad)
      | inr right ↦
          ap (λ (cs : List SpecCorrected). with_one cs o) (right_first m ds a x (take i ks) right)
          ∙ rest
          ∙ sym (right_first m ds a x (take (suc i) ks) right)
    ]

-- The list holds the misled keys among the first `count`.
pub HasMisled : (m : HandleMap) (lines : List (List ℕ)) (ds : List Bits) (count : ℕ) (list : List Corrected) → Type 0
HasMisled m lines ds count list = map corrected_as list ≡ misled_from m ds 0 (take count (map key_bits lines))

pub misled_starts : (m : HandleMap) (lines : List (List ℕ)) (ds : List Bits) (list : List Corrected) → list ≡ [] → HasMisled m lines ds 0 list
unfolding HasMisled
misled_starts m lines ds list none = ap (map corrected_as) none ∙ sym (misled_nil m ds 0)

-- the key after these
next_key : (m : HandleMap) (lines : List (List ℕ)) (ds : List Bits) (i next : ℕ) (list : List Corrected) (o : Option SpecCorrected) → i < length lines → next ≡ i + 1 → HasMisled m lines ds i list → o ≡ correction_of m ds i (key_at lines i) → with_one (map corrected_as list) o ≡ misled_from m ds 0 (take next (map key_bits lines))
unfolding HasMisled
next_key m lines ds i next list o inside after h is =
    let size = length-map lines key_bits in
    let e : i ≡ 0 + i = omega arith in
    let f : suc i ≡ next = omega arith in
    ap (λ (cs : List SpecCorrected). with_one cs o) h
    ∙ ap (with_one (misled_from m ds 0 (take i (map key_bits lines)))) (is ∙ ap (λ n. correction_of m ds n (key_at lines i)) e ∙ ap (correction_of m ds (0 + i)) (sym (get_or-map key_bits lines i [] [] inside)))
    ∙ next_from m ds 0 (map key_bits lines) i (omega arith)
    ∙ ap (λ n. misled_from m ds 0 (take n (map key_bits lines))) f

pub misled_more : (m : HandleMap) (lines : List (List ℕ)) (ds : List Bits) (i next : ℕ) (list new : List Corrected) (c : Corrected) → i < length lines → next ≡ i + 1 → HasMisled m lines ds i list → Some (corrected_as c) ≡ correction_of m ds i (key_at lines i) → new ≡ list ++ c ∷ [] → HasMisled m lines ds next new
unfolding HasMisled with_one
misled_more m lines ds i next list new c inside after h is pushed =
    ap (map corrected_as) pushed ∙ map-append corrected_as list (c ∷ []) ∙ next_key m lines ds i next list (Some (corrected_as c)) inside after h is

pub misled_same : (m : HandleMap) (lines : List (List ℕ)) (ds : List Bits) (i next : ℕ) (list : List Corrected) → i < length lines → next ≡ i + 1 → HasMisled m lines ds i list → None ≡ correction_of m ds i (key_at lines i) → HasMisled m lines ds next list
unfolding HasMisled with_one
misled_same m lines ds i next list inside after h is = next_key m lines ds i next list None inside after h is

all_misled : (m : HandleMap) (ds : List Bits) (ks : List Bits) → misled_from m ds 0 ks ≡ misled_keys m ds ks
unfolding misled_from correction misled_keys
all_misled m ds ks = refl

many_corrections : (m : HandleMap) (ds ks : List Bits) → 1 < length ds → misled_keys m ds ks ≡ corrections_of m ds ks
unfolding corrections_of
many_corrections m [] ks some = absurd (omega arith)
many_corrections m (d ∷ []) ks some = absurd (omega arith)
many_corrections m (d ∷ e ∷ ds) ks some = refl

pub misled_whole : (m : HandleMap) (lines : List (List ℕ)) (numbers : List ℕ) (count : ℕ) (list : List Corrected) → 1 < length numbers → length lines ≤ count → HasMisled m lines (delimiter_bits lines numbers) count list → map corrected_as list ≡ corrections_of m (delimiter_bits lines numbers) (map key_bits lines)
unfolding HasMisled
misled_whole m lines numbers count list some over h =
    let ds = delimiter_bits lines numbers in
    let many : length ds ≡ length numbers = length-map numbers _ in
    let size = length-map lines key_bits in
    h ∙ ap (misled_from m ds 0) (take_all count (map key_bits lines) (omega arith)) ∙ all_misled m ds (map key_bits lines) ∙ many_corrections m ds (map key_bits lines) (omega arith)

few_corrections : (m : HandleMap) (ds ks : List Bits) → length ds < 2 → corrections_of m ds ks ≡ []
unfolding corrections_of
few_corrections m [] ks few = refl
few_corrections m (d ∷ []) ks few = refl
few_corrections m (d ∷ e ∷ ds) ks few = absurd (omega arith)

-- with fewer than two delimiters there is none
pub none_misled : (m : HandleMap) (lines : List (List ℕ)) (numbers : List ℕ) (list : List Corrected) → length numbers < 2 → list ≡ [] → map corrected_as list ≡ corrections_of m (delimiter_bits lines numbers) (map key_bits lines)
none_misled m lines numbers list few none =
    let many : length (delimiter_bits lines numbers) ≡ length numbers = length-map numbers _ in
    ap (map corrected_as) none ∙ sym (few_corrections m (delimiter_bits lines numbers) (map key_bits lines) (omega arith))

-- ---- neighbours

pub neighbours : (lines : List (List ℕ)) (key before n : ℕ) (x y : Bits) → key < length lines → before ≡ key - 1 → slice_get (map key_bits lines) before ≡ Some x → slice_get (map key_bits lines) key ≡ Some y → n ≡ length (common_prefix x y) → (take n (key_at lines (key - 1)) ≡ take n (key_at lines key)) × (n ≤ length (key_at lines key))
neighbours lines key before n x y inside behind first second size =
    let x_is : x ≡ key_at lines (key - 1) = view_bits lines before x (omega arith) first ∙ ap (key_at lines) behind in
    let y_is : y ≡ key_at lines key = view_bits lines key y inside second in
    let front = same_front x y n size in (
      ap (take n) (sym x_is) ∙ front.0 ∙ ap (take n) y_is,
      subst (λ (z : Bits). n ≤ length z) y_is front.1,
    )
