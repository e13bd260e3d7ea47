-- The numbers of a chunk's pairs: what is chosen by them, and by numbers of them.
use Rattle.std.proofs.Common.{◌≡◌, ℕ, zero, suc, ◌+◌, ◌<◌, Bool, true, false, cond, List, [], ◌∷◌, ◌++◌, length, map, take, get_or, refl, sym, ap, subst, ◌∙◌, arith, Some}
use Rattle.std.specs.Prelude.{◌==◌, slice_get, slice_index, filter, All, AllPairs}
use Rattle.std.specs.List.{AllByRecursion, cons_option, enumerate_from}
use Rattle.std.proofs.lemmas.List.{take_more, length-map, get_or-map}
use Rattle.std.proofs.lemmas.List.Elements.{filter_map-append, All-filter, All-map, All-from_recursion, recursion_from_All}
use Rattle.std.proofs.lemmas.List.FromFn.{length-enumerate_from, get_or-enumerate_from}
use Rattle.std.proofs.lemmas.List.Kept.{AllPairs-filter}
use Rattle.std.proofs.lemmas.Option.{slice_get-get_or}
use Rattle.sx_spec.specs.declared.Signature.{Signature}
use Rattle.sx_spec.specs.Chunks.{chunk_of, chunk_bits}
use Rattle.sx_spec.specs.StaticFunction.{Entry, chunk_entries}
use Rattle.sx_spec.specs.Systems.{chosen, IsIndexSet}
use Rattle.sx_spec.proofs.Counts.{at_index}
use Rattle.sx_sig.specs.Grouping.{chunk_numbers}
use Rattle.sx_static.specs.Answer.{entries_of}
use Rattle.sx_static.proofs.Entries.{signatures_of_entries, length_of_entries}

-- ---- one number more

pub chosen_more : {X : Type 0} (xs : List X) (numbers : List ℕ) (i d : ℕ) (x e : X) → i < length numbers → get_or numbers i d < length xs → x ≡ get_or xs (get_or numbers i d) e
    → chosen xs (take (i + 1) numbers) ≡ chosen xs (take i numbers) ++ x ∷ []
chosen_more xs numbers i d x e inside within is =
    let n = get_or numbers i d in
    let at : slice_get xs n ≡ Some x = slice_get-get_or xs n e within ∙ ap (λ y. Some y) (sym is) in
    ap (chosen xs) (take_more numbers i d inside)
    ∙ filter_map-append (slice_get xs) (take i numbers) (n ∷ [])
    ∙ ap (λ o. chosen xs (take i numbers) ++ cons_option o []) at

-- ---- chosen by numbers of numbers

pub length_chosen : {X : Type 0} (xs : List X) (numbers : List ℕ) → AllByRecursion (λ i. i < length xs) numbers → length (chosen xs numbers) ≡ length numbers
length_chosen xs [] all = refl
length_chosen xs (n ∷ numbers) all =
    let (x, at) = at_index xs n all.0 in
    ap (λ o. length (cons_option o (chosen xs numbers))) at ∙ ap suc (length_chosen xs numbers all.1)

-- an element that was chosen
pub chosen_at : {X : Type 0} (xs : List X) (numbers : List ℕ) (k : ℕ) → AllByRecursion (λ i. i < length xs) numbers → k < length numbers → slice_get (chosen xs numbers) k ≡ slice_get xs (slice_index numbers k)
chosen_at xs [] k all inside = absurd (omega arith)
chosen_at xs (n ∷ numbers) zero all inside =
    let (x, at) = at_index xs n all.0 in
    ap (λ o. slice_get (cons_option o (chosen xs numbers)) 0) at ∙ sym at
chosen_at xs (n ∷ numbers) (suc k) all inside =
    let (x, at) = at_index xs n all.0 in
    ap (λ o. slice_get (cons_option o (chosen xs numbers)) (suc k)) at ∙ chosen_at xs numbers k all.1 (omega arith)

pub chosen_of_numbers : {X : Type 0} (xs : List X) (numbers places : List ℕ) → AllByRecursion (λ i. i < length xs) numbers → AllByRecursion (λ k. k < length numbers) places
    → chosen xs (map (slice_index numbers) places) ≡ chosen (chosen xs numbers) places
chosen_of_numbers xs numbers [] within all = refl
chosen_of_numbers xs numbers (k ∷ places) within all =
    ap (λ o. cons_option o (chosen xs (map (slice_index numbers) places))) (sym (chosen_at xs numbers k within all.0))
    ∙ ap (cons_option (slice_get (chosen xs numbers) k)) (chosen_of_numbers xs numbers places within all.1)

-- numbers of rising numbers rise
pub set_of_numbers : (n : ℕ) (numbers places : List ℕ) → AllByRecursion (λ i. i < n) numbers → AllPairs (λ x y. x < y) numbers → IsIndexSet (length numbers) places → IsIndexSet n (map (slice_index numbers) places)
set_of_numbers n numbers places within rises set =
    let long = length-map places (slice_index numbers) in
    let each = All-from_recursion (λ i. i < n) numbers within in
    let inside = All-from_recursion (λ k. k < length numbers) places set.within in
    record {
      rising = λ k h.
          let a = get_or-map (slice_index numbers) places k 0 0 (omega arith) in
          let b = get_or-map (slice_index numbers) places (k + 1) 0 0 (omega arith) in
          let below : slice_index numbers (get_or places k 0) < slice_index numbers (get_or places (k + 1) 0) =
          rises (get_or places k 0) (get_or places (k + 1) 0) 0 (set.rising k (omega arith)) (inside (k + 1) 0 (omega arith)) in
          omega arith;
      within = recursion_from_All (λ i. i < n) (map (slice_index numbers) places) (All-map (λ i. i < n) (slice_index numbers) places (λ k d h. each (get_or places k d) 0 (inside k d h)));
      nonempty = let some = set.nonempty in omega arith;
    }

-- ---- chosen from two lists at once

pub chosen_entries : (sigs : List Signature) (values numbers : List ℕ) → length values ≡ length sigs
    → entries_of (chosen sigs numbers) (chosen values numbers) ≡ chosen (entries_of sigs values) numbers
chosen_entries sigs values [] same = refl
chosen_entries sigs values (n ∷ numbers) same = at_both sigs values n same (chosen sigs numbers) (chosen values numbers) ∙ ap (cons_option (slice_get (entries_of sigs values) n)) (chosen_entries sigs values numbers same)
  where
    at_both : (sigs : List Signature) (values : List ℕ) (n : ℕ) → length values ≡ length sigs → (later_sigs : List Signature) (later_values : List ℕ)
        → entries_of (cons_option (slice_get sigs n) later_sigs) (cons_option (slice_get values n) later_values) ≡ cons_option (slice_get (entries_of sigs values) n) (entries_of later_sigs later_values)
    at_both [] [] n same later_sigs later_values = refl
    at_both [] (v ∷ values) n same later_sigs later_values = absurd (omega arith)
    at_both (sig ∷ sigs) [] n same later_sigs later_values = absurd (omega arith)
    at_both (sig ∷ sigs) (v ∷ values) zero same later_sigs later_values = refl
    at_both (sig ∷ sigs) (v ∷ values) (suc n) same later_sigs later_values = at_both sigs values n (omega arith) later_sigs later_values

-- ---- the numbers of the elements that pass

module _ {X : Type 0} (p : X → Bool) where
  abbrev places_from : ℕ → List X → List ℕ
  places_from n xs = map (λ t. t.0) (filter (λ t. p t.1) (enumerate_from n xs))

  chosen_places : (all : List X) (n : ℕ) (xs : List X) → ((k : ℕ) (x : X) → slice_get xs k ≡ Some x → slice_get all (n + k) ≡ Some x) → chosen all (places_from n xs) ≡ filter p xs
  chosen_places all n [] stands = refl
  chosen_places all n (x ∷ xs) stands =
      let here : slice_get all n ≡ Some x = (let e : n + 0 ≡ n = omega arith in subst (λ m. slice_get all m ≡ Some x) e (stands 0 x refl)) in
      let rest = chosen_places all (n + 1) xs (λ k y at. let e : n + suc k ≡ (n + 1) + k = omega arith in subst (λ m. slice_get all m ≡ Some y) e (stands (suc k) y at)) in
      elim (p x) as (λ b. chosen all (map (λ t. t.0) (cond b ((n, x) ∷ filter (λ t. p t.1) (enumerate_from (n + 1) xs)) (filter (λ t. p t.1) (enumerate_from (n + 1) xs)))) ≡ cond b (x ∷ filter p xs) (filter p xs)) [
        | true ↦ ap (λ o. cons_option o (chosen all (places_from (n + 1) xs))) here ∙ ap (λ ys. x ∷ ys) rest
        | false ↦ rest
      ]

  numbered_at : (xs : List X) (i : ℕ) (d : ℕ × X) → i < length (enumerate_from 0 xs) → (get_or (enumerate_from 0 xs) i d).0 ≡ i
  numbered_at xs i d inside =
      let long = length-enumerate_from 0 xs in
      let e : 0 + i ≡ i = omega arith in
      ap (λ t. t.0) (get_or-enumerate_from 0 xs i d (omega arith)) ∙ e

  places_within : (xs : List X) → All (λ i. i < length xs) (places_from 0 xs)
  places_within xs =
      let long = length-enumerate_from 0 xs in
      All-map (λ i. i < length xs) (λ t. t.0) (filter (λ t. p t.1) (enumerate_from 0 xs))
      (All-filter (λ t. p t.1) (λ t. t.0 < length xs) (enumerate_from 0 xs) (λ i d h. let e = numbered_at xs i d h in omega arith))

  places_rise : (xs : List X) → AllPairs (λ x y. x < y) (places_from 0 xs)
  places_rise xs =
      let passing = filter (λ t. p t.1) (enumerate_from 0 xs) in
      let pairs : AllPairs (λ (s t : ℕ × X). s.0 < t.0) passing =
      AllPairs-filter (λ (s t : ℕ × X). s.0 < t.0) (λ t. p t.1) (enumerate_from 0 xs) (λ i j d before h. let a = numbered_at xs i d (omega arith) in let b = numbered_at xs j d h in omega arith) in
      let long = length-map passing (λ t. t.0) in
      λ i j d before h. rises passing pairs i j d before (omega arith)
    where
      rises : (passing : List (ℕ × X)) → AllPairs (λ s t. s.0 < t.0) passing → (i j d : ℕ) → i < j → j < length passing → get_or (map (λ t. t.0) passing) i d < get_or (map (λ t. t.0) passing) j d
      rises [] pairs i j d before inside = absurd (omega arith)
      rises (t ∷ passing) pairs i j d before inside =
          let a = get_or-map (λ (s : ℕ × X). s.0) (t ∷ passing) i t d (omega arith) in
          let b = get_or-map (λ (s : ℕ × X). s.0) (t ∷ passing) j t d inside in
          let h = pairs i j t before inside in
          omega arith

-- the numbers in a mapped list
places_map : {X Y : Type 0} (f : X → Y) (p : Y → Bool) (n : ℕ) (xs : List X) → places_from p n (map f xs) ≡ places_from (λ x. p (f x)) n xs
places_map f p n [] = refl
places_map f p n (x ∷ xs) =
    elim (p (f x)) as (λ b. map (λ t. t.0) (cond b ((n, f x) ∷ filter (λ t. p t.1) (enumerate_from (n + 1) (map f xs))) (filter (λ t. p t.1) (enumerate_from (n + 1) (map f xs))))
    ≡ map (λ t. t.0) (cond b ((n, x) ∷ filter (λ t. p (f t.1)) (enumerate_from (n + 1) xs)) (filter (λ t. p (f t.1)) (enumerate_from (n + 1) xs)))) [
      | true ↦ ap (λ ns. n ∷ ns) (places_map f p (n + 1) xs)
      | false ↦ places_map f p (n + 1) xs
    ]

-- ---- the numbers of a chunk

module _ (sigs : List Signature) (values : List ℕ) (same : length values ≡ length sigs) (j : ℕ) where
  abbrev numbers : List ℕ
  numbers = chunk_numbers (chunk_bits (length sigs)) sigs j

  pub numbers_within : AllByRecursion (λ i. i < length sigs) numbers
  numbers_within = recursion_from_All (λ i. i < length sigs) numbers (places_within (λ sig. chunk_of sig (chunk_bits (length sigs)) == j) sigs)

  pub numbers_rise : AllPairs (λ x y. x < y) numbers
  numbers_rise = places_rise (λ sig. chunk_of sig (chunk_bits (length sigs)) == j) sigs

  -- they choose the entries of the chunk
  pub chosen_chunk : chosen (entries_of sigs values) numbers ≡ chunk_entries (entries_of sigs values) j
  chosen_chunk =
      let entries = entries_of sigs values in
      let bits = chunk_bits (length sigs) in
      let as_entries : numbers ≡ places_from (λ (e : Entry). chunk_of e.0 bits == j) 0 entries =
      ap (places_from (λ sig. chunk_of sig bits == j) 0) (sym (signatures_of_entries sigs values same))
      ∙ places_map (λ (e : Entry). e.0) (λ sig. chunk_of sig bits == j) 0 entries in
      ap (chosen entries) as_entries
      ∙ chosen_places (λ (e : Entry). chunk_of e.0 bits == j) entries 0 entries (λ k e at. let n : k ≡ 0 + k = omega arith in subst (λ m. slice_get entries m ≡ Some e) n at)
      ∙ ap (λ n. filter (λ (e : Entry). chunk_of e.0 (chunk_bits n) == j) entries) (sym (length_of_entries sigs values same))
