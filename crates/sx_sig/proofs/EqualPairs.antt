-- Pairs of equal signatures: as neighbours of a list in order, and as twins.
use Rattle.std.proofs.Common.{◌≡◌, ℕ, zero, suc, ◌+◌, ◌-◌, ◌<◌, ◌≤◌, ◌⊎◌, Bool, true, false, List, [], length, map, take, refl, sym, ap, subst, ◌∙◌, arith, inl, inr, get_or, All, Option, Some, Vec}
use Rattle.std.specs.Prelude.{◌==◌, ◌&&◌, Contains, IsSomeAnd, slice_get}
use Rattle.std.proofs.lemmas.Option.{slice_get-get_or}
use Rattle.std.specs.Cmp.{IsTotalOrder, IsStrictWeakOrder, nat_cmp_total, then_total, on_total, tied_itself, ranks}
use Rattle.std.specs.List.{range_with_len}
use Rattle.std.specs.List.Sorted.{IsPermutation, IsSortedBy}
use Rattle.std.specs.Ordering.{MatchOrdering, is_lt, nat_cmp, ordering_reverse, ordering_then}
use Rattle.std.specs.declared.cmp.Ordering.{Ordering}
use Rattle.std.specs.declared.cmp.Ordering.TheVariants.{Less, Equal, Greater}
use Rattle.std.proofs.lemmas.Bool.{cases_lt, and_parts, eqb-true}
use Rattle.std.proofs.lemmas.List.{get_or_default, get_or-map, get_or-take, length-map, length-take-le}
use Rattle.std.proofs.lemmas.List.Elements.{All-map}
use Rattle.std.proofs.lemmas.List.Sorted.{All-permutation, Contains-permutation, ranks_by, sorted_far}
use Rattle.std.proofs.lemmas.List.FromFn.{get_or-map-range_with_len}
use Rattle.sx_spec.specs.declared.Signature.{Signature}
use Rattle.sx_spec.specs.Chunks.{chunk_of}
use Rattle.sx_spec.specs.StaticFunction.{AllDiffer, AreTwins}
use Rattle.sx_sig.specs.declared.grouping.Twins.{Twins}
use Rattle.sx_sig.specs.Grouping.{IsFound, Follows, GathersEqual, IsLeastFound, IsNeighbour, StandTogether, chunk_numbers, numbered, sig_at}
use Rattle.sx_sig.proofs.Groups.{number_in, number_below, lists_count}

-- ---- the order of signatures with their numbers

abbrev sig_cmp : Signature → Signature → Ordering
sig_cmp x y = ordering_then (nat_cmp x.w0 y.w0) (ordering_then (nat_cmp x.w1 y.w1) (nat_cmp x.w2 y.w2))

abbrev pub entry_cmp : Signature × ℕ → Signature × ℕ → Ordering
entry_cmp x y = ordering_then (sig_cmp x.0 y.0) (nat_cmp x.1 y.1)

sig_total : IsTotalOrder sig_cmp
sig_total = then_total (on_total (λ (s : Signature). s.w0) nat_cmp_total) (then_total (on_total (λ (s : Signature). s.w1) nat_cmp_total) (on_total (λ (s : Signature). s.w2) nat_cmp_total))

entry_total : IsTotalOrder entry_cmp
entry_total = then_total (on_total (λ (e : Signature × ℕ). e.0) sig_total) (on_total (λ (e : Signature × ℕ). e.1) nat_cmp_total)

weak : IsStrictWeakOrder (λ x y. is_lt (entry_cmp x y))
weak = ranks_by entry_total (λ (e : Signature × ℕ). e)

equal_parts : (o p : Ordering) → ordering_then o p ≡ Equal → (o ≡ Equal) × (p ≡ Equal)
equal_parts Less p h = absurd cc
equal_parts Equal p h = (refl, h)
equal_parts Greater p h = absurd cc

nat_tied : (a b : ℕ) → nat_cmp a b ≡ Equal → a ≡ b
nat_tied a b h = subst (λ (o : Ordering). MatchOrdering o (a < b) (a ≡ b) (b < a)) h (ranks a b)

sig_tied : (x y : Signature) → sig_cmp x y ≡ Equal → x ≡ y
sig_tied x y h =
    let (a, rest) = equal_parts (nat_cmp x.w0 y.w0) _ h in
    let (b, c) = equal_parts (nat_cmp x.w1 y.w1) _ rest in
    let p = nat_tied x.w0 y.w0 a in
    let q = nat_tied x.w1 y.w1 b in
    let r = nat_tied x.w2 y.w2 c in
    λ i. record { w0 = p i; w1 = q i; w2 = r i }

not_less : (a b : ℕ) (o : Ordering) → MatchOrdering o (a < b) (a ≡ b) (b < a) → is_lt o ≡ false → b ≤ a
not_less a b Less h k = absurd cc
not_less a b Equal h k = omega arith
not_less a b Greater h k = omega arith

-- neither is less than the other by the first part
both_tied : (o p a b : Ordering) → o ≡ ordering_reverse p → is_lt (ordering_then o a) ≡ false → is_lt (ordering_then p b) ≡ false → (o ≡ Equal) × (is_lt a ≡ false) × (is_lt b ≡ false)
both_tied o Less a b turned lo hi = absurd cc
both_tied o Equal a b turned lo hi = (turned, subst (λ (r : Ordering). is_lt (ordering_then r a) ≡ false) turned lo, hi)
both_tied o Greater a b turned lo hi = let h = subst (λ (r : Ordering). is_lt (ordering_then r a) ≡ false) turned lo in absurd cc

between : (s t : Signature) (i b j : ℕ) → is_lt (entry_cmp (t, b) (s, i)) ≡ false → is_lt (entry_cmp (s, j) (t, b)) ≡ false → (t ≡ s) × (i ≤ b) × (b ≤ j)
between s t i b j lo hi =
    let (same, low, high) = both_tied (sig_cmp t s) (sig_cmp s t) (nat_cmp b i) (nat_cmp j b) (sig_total.antisymm t s) lo hi in
    (sig_tied t s same, not_less b i (nat_cmp b i) (ranks b i) low, not_less j b (nat_cmp j b) (ranks j b) high)

-- of two entries with one signature, the one with the lesser number comes first
in_turn : (s : Signature) (i j : ℕ) → is_lt (entry_cmp (s, i) (s, j)) ≡ false → j ≤ i
in_turn s i j h =
    let tied : sig_cmp s s ≡ Equal = tied_itself sig_total s in
    not_less i j (nat_cmp i j) (ranks i j) (subst (λ (r : Ordering). is_lt (ordering_then r (nat_cmp i j)) ≡ false) tied h)

-- a signature with a number, by its parts
paired : (e : Signature × ℕ) (s : Signature) (n : ℕ) → e.0 ≡ s → e.1 ≡ n → e ≡ (s, n)
paired e s n a b = λ k. (a k, b k)

-- ---- neighbours of a list in order

module _ (ordered : List (Signature × ℕ)) (sorted : IsSortedBy (λ x y. is_lt (entry_cmp x y)) ordered) where
  abbrev IsAt : ℕ → Signature × ℕ → Type 0
  IsAt k e = (d : Signature × ℕ) → get_or ordered k d ≡ e

  at_place : (k : ℕ) (d e : Signature × ℕ) → k < length ordered → get_or ordered k d ≡ e → IsAt k e
  at_place k d e lt is z = get_or_default ordered k z d lt ∙ is

  neighbour_from : (n q p : ℕ) (s : Signature) (i j : ℕ) → q + n ≡ p → p < length ordered → IsAt q (s, i) → IsAt p (s, j) → i < j → (a : ℕ) × IsNeighbour ordered a j
  neighbour_from zero q p s i j far within first second lt =
      let e : q ≡ p = omega arith in
      let same = ap (λ (x : Signature × ℕ). x.1) (sym (first (s, i)) ∙ ap (λ k. get_or ordered k (s, i)) e ∙ second (s, i)) in
      absurd (omega arith)
  neighbour_from (suc n) q p s i j far within first second lt =
      let d : Signature × ℕ = (s, i) in
      let next = get_or ordered (q + 1) d in
      let lo = subst (λ (x : Signature × ℕ). is_lt (entry_cmp next x) ≡ false) (first d) (sorted q d (omega arith) (omega arith)) in
      let hi = subst (λ (x : Signature × ℕ). is_lt (entry_cmp x next) ≡ false) (second d) (sorted_far (λ x y. is_lt (entry_cmp x y)) weak ordered sorted (q + 1) p d (omega arith) within) in
      let (same, low, high) = between s next.0 i next.1 j lo hi in
      elim (cases_lt next.1 j) [
        | inl less ↦
            let here : next ≡ (s, next.1) = paired next s next.1 same refl in
            neighbour_from n (q + 1) p s next.1 j (omega arith) within (at_place (q + 1) d (s, next.1) (omega arith) here) second less
        | inr more ↦
            let e : next.1 ≡ j = omega arith in
            let here : next ≡ (s, j) = paired next s j same e in
            (i, record { place = q; sig = s; within = omega arith; left = first; right = at_place (q + 1) d (s, j) (omega arith) here; order = lt })
      ]

  -- two entries with one signature: the second number is that of a neighbour's
  neighbour : (s : Signature) (i j : ℕ) → Contains ordered (s, i) → Contains ordered (s, j) → i < j → (a : ℕ) × IsNeighbour ordered a j
  neighbour s i j (q, inside, is) (p, inside', is') lt =
      let first = at_place q (s, i) (s, i) inside is in
      let second = at_place p (s, j) (s, j) inside' is' in
      elim (cases_lt p q) [
        | inl back ↦
            let h = sorted_far (λ x y. is_lt (entry_cmp x y)) weak ordered sorted p q (s, i) (omega arith) inside in
            let g = subst (λ (x : Signature × ℕ). is_lt (entry_cmp x (get_or ordered p (s, i))) ≡ false) (first (s, i)) h in
            let f = subst (λ (x : Signature × ℕ). is_lt (entry_cmp (s, i) x) ≡ false) (second (s, i)) g in
            let wrong = in_turn s i j f in
            absurd (omega arith)
        | inr on ↦ neighbour_from (p - q) q p s i j (omega arith) inside' first second lt
      ]

-- ---- two entries

sigs_same : (x y : Signature) (b : Bool) → b ≡ (x.w0 == y.w0 && (x.w1 == y.w1 && x.w2 == y.w2)) → b ≡ true → x ≡ y
sigs_same x y b is holds =
    let (a, rest) = and_parts (x.w0 == y.w0) _ (sym is ∙ holds) in
    let (b, c) = and_parts (x.w1 == y.w1) _ rest in
    let p = eqb-true x.w0 y.w0 a in
    let q = eqb-true x.w1 y.w1 b in
    let r = eqb-true x.w2 y.w2 c in
    λ i. record { w0 = p i; w1 = q i; w2 = r i }

pub follows : (left right : Signature × ℕ) (b : Bool) → b ≡ (left.0.w0 == right.0.w0 && (left.0.w1 == right.0.w1 && left.0.w2 == right.0.w2)) → b ≡ true → left.1 < right.1 → Follows left right left.1 right.1
follows left right b is holds lt = record {
  sig = left.0;
  left_is = refl;
  right_is = paired right left.0 right.1 (sym (sigs_same left.0 right.0 b is holds)) refl;
  order = lt;
}

-- one place more
module _ (ordered : List (Signature × ℕ)) (place : ℕ) (left right : Signature × ℕ) (some : 1 ≤ place) (inside : place < length ordered) (left_at : left ≡ get_or ordered (place - 1) left) (right_at : right ≡ get_or ordered place right) where
  pub neighbour_here : (first second : ℕ) → Follows left right first second → IsNeighbour ordered first second
  neighbour_here first second f =
      let e : place - 1 + 1 ≡ place = omega arith in
      record {
        place = place - 1;
        sig = f.sig;
        within = omega arith;
        left = λ d. get_or_default ordered (place - 1) d left (omega arith) ∙ sym left_at ∙ f.left_is;
        right = λ d. ap (λ k. get_or ordered k d) e ∙ get_or_default ordered place d right inside ∙ sym right_at ∙ f.right_is;
        order = f.order;
      }

  pub follows_here : (first second : ℕ) (n : IsNeighbour ordered first second) → n.place + 1 ≡ place → Follows left right first second
  follows_here first second n is =
      let e : place - 1 ≡ n.place = omega arith in
      record {
        sig = n.sig;
        left_is = left_at ∙ ap (λ k. get_or ordered k left) e ∙ n.left left;
        right_is = right_at ∙ ap (λ k. get_or ordered k right) (sym is) ∙ n.right right;
        order = n.order;
      }

  pub least_here : (old new : ℕ) → ((first second : ℕ) → Follows left right first second → new ≤ second) → new ≤ old
      → ((first second : ℕ) → (n : IsNeighbour ordered first second) → n.place + 1 < place → old ≤ second) → (first second : ℕ) → (n : IsNeighbour ordered first second) → n.place + 1 < place + 1 → new ≤ second
  least_here old new least before so_far first second n lt =
      elim (cases_lt (n.place + 1) place) [
        | inl earlier ↦ let h = so_far first second n earlier in omega arith
        | inr here ↦ least first second (follows_here first second n (omega arith))
      ]

  pub either_here : (start old new : Twins) → (new ≡ old) ⊎ Follows left right new.first new.second → (old ≡ start) ⊎ IsNeighbour ordered old.first old.second → (new ≡ start) ⊎ IsNeighbour ordered new.first new.second
  either_here start old new (inl same) (inl none) = inl (same ∙ none)
  either_here start old new (inl same) (inr found) = inr (subst (λ (p : Twins). IsNeighbour ordered p.first p.second) (sym same) found)
  either_here start old new (inr f) so_far = inr (neighbour_here new.first new.second f)

-- ---- one list more

in_map : (sigs : List Signature) (numbers : List ℕ) (i : ℕ) → Contains numbers i → Contains (map (numbered sigs) numbers) (numbered sigs i)
in_map sigs numbers i (k, lt, is) =
    let long : length (map (numbered sigs) numbers) ≡ length numbers = length-map numbers (numbered sigs) in
    (k, omega arith, get_or-map (numbered sigs) numbers k i (numbered sigs i) lt ∙ ap (numbered sigs) is)

-- a list is one of those before, or the next
together_more : (lists : List (List ℕ)) (x i j : ℕ) → x < length lists → StandTogether (take (x + 1) lists) i j → StandTogether (take x lists) i j ⊎ (Contains (get_or lists x []) i × Contains (get_or lists x []) j)
together_more lists x i j lt t =
    let k = t.list in
    let a : length (take (x + 1) lists) ≡ x + 1 = length-take-le (x + 1) lists (omega arith) in
    let b : length (take x lists) ≡ x = length-take-le x lists (omega arith) in
    let within = t.within in
    let here : get_or (take (x + 1) lists) k [] ≡ get_or lists k [] = get_or-take (x + 1) lists k [] (omega arith) in
    let P : ℕ → List ℕ → Type 0 = λ n l. Contains l n in
    elim (cases_lt k x) [
      | inl before ↦
          let same : get_or (take (x + 1) lists) k [] ≡ get_or (take x lists) k [] = here ∙ sym (get_or-take x lists k [] before) in
          inl (record { list = k; within = omega arith; first = subst (P i) same t.first; second = subst (P j) same t.second })
      | inr past ↦
          let e : k ≡ x = omega arith in
          let same : get_or (take (x + 1) lists) k [] ≡ get_or lists x [] = here ∙ ap (λ n. get_or lists n []) e in
          inr (subst (P i) same t.first, subst (P j) same t.second)
    ]

pub least_more : (sigs : List Signature) (lists : List (List ℕ)) (x : ℕ) (numbers : List ℕ) (filled ordered : List (Signature × ℕ)) (old new : ℕ) → x < length lists → get_or lists x [] ≡ numbers
    → filled ≡ map (numbered sigs) numbers → IsPermutation filled ordered → IsSortedBy (λ x y. is_lt (entry_cmp x y)) ordered
    → ((first second : ℕ) → IsNeighbour ordered first second → new ≤ second) → new ≤ old → IsLeastFound sigs (take x lists) old → IsLeastFound sigs (take (x + 1) lists) new
least_more sigs lists x numbers filled ordered old new lt is are moved sorted least before so_far i j together less same =
    elim (together_more lists x i j lt together) [
      | inl earlier ↦ let h = so_far i j earlier less same in omega arith
      | inr (first, second) ↦
          let P : ℕ → Type 0 = λ n. Contains ordered (numbered sigs n) in
          let at : (n : ℕ) → Contains (get_or lists x []) n → P n = λ n inside. Contains-permutation filled ordered (numbered sigs n) moved (subst (λ (l : List (Signature × ℕ)). Contains l (numbered sigs n)) (sym are) (in_map sigs numbers n (subst (λ (l : List ℕ). Contains l n) is inside))) in
          let e : numbered sigs i ≡ (sig_at sigs j, i) = paired (numbered sigs i) (sig_at sigs j) i same refl in
          let (a, found) = neighbour ordered sorted (sig_at sigs j) i j (subst (λ (y : Signature × ℕ). Contains ordered y) e (at i first)) (at j second) less in
          least a j found
    ]

pub found_more : (sigs : List Signature) (numbers : List ℕ) (filled ordered : List (Signature × ℕ)) (old new : Twins) → filled ≡ map (numbered sigs) numbers → IsPermutation filled ordered
    → (new ≡ old) ⊎ IsNeighbour ordered new.first new.second → IsFound sigs old.first old.second → IsFound sigs new.first new.second
found_more sigs numbers filled ordered old new are moved (inl same) so_far within = subst (λ (p : Twins). IsFound sigs p.first p.second) (sym same) so_far within
found_more sigs numbers filled ordered old new are moved (inr n) so_far within =
    let P : Signature × ℕ → Type 0 = λ e. e.0 ≡ sig_at sigs e.1 in
    let here : All P (map (numbered sigs) numbers) = All-map P (numbered sigs) numbers (λ k d lt. refl) in
    let all : All P ordered = All-permutation P filled ordered moved (subst (λ (l : List (Signature × ℕ)). All P l) (sym are) here) in
    let inside = n.within in
    let a : n.sig ≡ sig_at sigs new.first = subst P (n.left (n.sig, 0)) (all n.place (n.sig, 0) (omega arith)) in
    let b : n.sig ≡ sig_at sigs new.second = subst P (n.right (n.sig, 0)) (all (n.place + 1) (n.sig, 0) inside) in
    (n.order, sym a ∙ b)

-- ---- all lists

-- equal signatures stand in the list of their chunk
pub gathers : (c n : ℕ) (sigs : List Signature) (lists : List (List ℕ)) → lists ≡ map (chunk_numbers c sigs) (range_with_len 0 n) → All (λ sig. chunk_of sig c < n) sigs → GathersEqual sigs lists
gathers c n sigs lists are within = record {
  inside = λ k d lt.
      let count = lists_count c n sigs lists are in
      let list : chunk_numbers c sigs k ≡ get_or lists k d = sym (ap (λ (l : List (List ℕ)). get_or l k d) are ∙ get_or-map-range_with_len (chunk_numbers c sigs) 0 n k k d (omega arith) (omega arith)) in
      let P : List ℕ → Type 0 = λ l. All (λ m. m < length sigs) l in
      subst P list (number_below c sigs k);
  together = λ i j less inside same.
      let d : Signature = record { w0 = 0; w1 = 0; w2 = 0 } in
      let k = chunk_of (sig_at sigs i) c in
      let lt : k < n = within i d (omega arith) in
      let count = lists_count c n sigs lists are in
      let list : get_or lists k [] ≡ chunk_numbers c sigs k = ap (λ (l : List (List ℕ)). get_or l k []) are ∙ get_or-map-range_with_len (chunk_numbers c sigs) 0 n k k [] lt (omega arith) in
      let P : ℕ → List ℕ → Type 0 = λ m l. Contains l m in
      record {
        list = k;
        within = omega arith;
        first = subst (P i) (sym list) (number_in c sigs i k d (omega arith) refl);
        second = subst (P j) (sym list) (number_in c sigs j k d inside (ap (λ s. chunk_of s c) (sym same)));
      };
}

-- each of the lists
pub inside_each : {W : Type 0} (sigs : List Signature) (lists : List (Vec ℕ W)) → All (λ l. All (λ n. n < length sigs) l) (map (λ u. u.items) lists) → All (λ v. All (λ n. n < length sigs) v.items) lists
inside_each {W} sigs lists all k d lt =
    let items : Vec ℕ W → List ℕ = λ u. u.items in
    let many : length (map items lists) ≡ length lists = length-map lists items in
    let P : List ℕ → Type 0 = λ l. All (λ m. m < length sigs) l in
    subst P (get_or-map items lists k d [] lt) (all k [] (omega arith))

pub least_of_all : (sigs : List Signature) (lists : List (List ℕ)) (second : ℕ) → GathersEqual sigs lists → IsLeastFound sigs lists second
    → (i j : ℕ) → i < j → j < length sigs → sig_at sigs i ≡ sig_at sigs j → second ≤ j
least_of_all sigs lists second gathered least i j less inside same = least i j (gathered.together i j less inside same) less same

-- signatures at any default
sig_at_is : (sigs : List Signature) (i : ℕ) (d : Signature) → i < length sigs → get_or sigs i d ≡ sig_at sigs i
sig_at_is sigs i d lt = get_or_default sigs i d (record { w0 = 0; w1 = 0; w2 = 0 }) lt

pub all_differ : (sigs : List Signature) (second : ℕ) → length sigs ≤ second → ((i j : ℕ) → i < j → j < length sigs → sig_at sigs i ≡ sig_at sigs j → second ≤ j) → AllDiffer sigs
all_differ sigs second past least i j d less inside same =
    let h = least i j less inside (sym (sig_at_is sigs i d (omega arith)) ∙ same ∙ sig_at_is sigs j d inside) in
    absurd (omega arith)

some_at : (sigs : List Signature) (i : ℕ) → i < length sigs → slice_get sigs i ≡ Some (sig_at sigs i)
some_at sigs i lt = slice_get-get_or sigs i (record { w0 = 0; w1 = 0; w2 = 0 }) lt

not_before : (sigs : List Signature) (first second : ℕ) → first < second → second < length sigs → sig_at sigs first ≡ sig_at sigs second → ((i j : ℕ) → i < j → j < length sigs → sig_at sigs i ≡ sig_at sigs j → second ≤ j)
    → ¬ Contains (take first sigs) (sig_at sigs second)
not_before sigs first second order inside equal least (k, lt, is) =
    let long : length (take first sigs) ≡ first = length-take-le first sigs (omega arith) in
    let a : get_or (take first sigs) k (sig_at sigs second) ≡ sig_at sigs k = get_or-take first sigs k (sig_at sigs second) (omega arith) ∙ sig_at_is sigs k (sig_at sigs second) (omega arith) in
    let h = least k first (omega arith) (omega arith) (sym a ∙ is ∙ sym equal) in
    absurd (omega arith)

pub are_twins : (sigs : List Signature) (first second : ℕ) → second < length sigs → IsFound sigs first second → ((i j : ℕ) → i < j → j < length sigs → sig_at sigs i ≡ sig_at sigs j → second ≤ j) → AreTwins sigs first second
are_twins sigs first second inside found least =
    let (order, equal) = found inside in
    let at = some_at sigs second inside in
    record {
      order = order;
      within = inside;
      equal = some_at sigs first (omega arith) ∙ ap (λ (s : Signature). Some s) equal ∙ sym at;
      least_second = λ i j d less within same.
          (let long : length (take second sigs) ≡ second = length-take-le second sigs (omega arith) in
          let a = get_or-take second sigs i d (omega arith) ∙ sig_at_is sigs i d (omega arith) in
          let b = get_or-take second sigs j d (omega arith) ∙ sig_at_is sigs j d (omega arith) in
          let h = least i j less (omega arith) (sym a ∙ same ∙ b) in
          absurd (omega arith));
      least_first = subst (λ (o : Option Signature). IsSomeAnd o (λ sig. ¬ Contains (take first sigs) sig)) (sym at) (not_before sigs first second order inside equal least);
    }
