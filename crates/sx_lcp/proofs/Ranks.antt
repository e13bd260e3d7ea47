-- A map's counts in order are the ranking of the values.
use Rattle.std.proofs.Common.{◌≡◌, ◌⊎◌, ℕ, zero, suc, ◌+◌, ◌<◌, ◌≤◌, ◌==◌, Bool, true, false, ◌&&◌, List, [], ◌∷◌, length, map, take, refl, sym, ap, subst, ◌∙◌, arith, inl, inr, get_or, All, Option, Some, None, unwrap_or, nat_eq}
use Rattle.std.specs.Prelude.{Contains, nat_lt, if◌then◌else◌}
use Rattle.std.specs.Cmp.{nat_eq_equiv, ranks}
use Rattle.std.specs.List.{IsDistinct}
use Rattle.std.specs.List.Sorted.{IsPermutation, IsSortedBy}
use Rattle.std.specs.Map.{lookup, keys_of}
use Rattle.std.specs.Option.{IsSome}
use Rattle.std.specs.Ordering.{MatchOrdering, is_lt, nat_cmp, ordering_then}
use Rattle.std.specs.declared.cmp.Ordering.{Ordering}
use Rattle.std.specs.declared.cmp.Ordering.TheVariants.{Less, Equal, Greater}
use Rattle.std.specs.declared.cmp.Reverse.{Reverse}
use Rattle.std.proofs.lemmas.Bool.{cases_Bool, cases_eq, cases_order, or_cases, or_right, and_parts, and_from, ltb-true, lt-ltb, eqb-true, eq-eqb, ne_eqb, eqb-false}
use Rattle.std.proofs.lemmas.List.{get_or-map, get_or_default, length-map, length-take}
use Rattle.std.proofs.lemmas.List.Elements.{All-map}
use Rattle.std.proofs.lemmas.List.Folds.{map_fixed}
use Rattle.std.proofs.lemmas.List.Sorted.{All-permutation, Contains-permutation, IsPermutation-map, IsPermutation-sym}
use Rattle.std.proofs.lemmas.List.Sums.{sum_by-cons}
use Rattle.std.proofs.lemmas.Map.Keys.{IsDistinct-IsPermutation, apart_from_distinct}
use Rattle.std.proofs.lemmas.Map.Views.{lookup-from_Contains, Contains-keys_from_lookup, IsSome-lookup_from_Contains, exact_unsigned_eq}
use Rattle.sx_spec_strings.specs.Ordered.{put, in_order, IsRising, IsIn, IsStrictOrder}
use Rattle.sx_spec_strings.proofs.OrderLaws
use Rattle.sx_spec_kinds.specs.TwoStep.{frequency, comes_before}
use Rattle.sx_lcp.specs.Rankings.{entry_of, value_at, count_at, ranked_entry, ranking_of}

-- ---- the order of the codes

comes_cases : (values : List ℕ) (u v : ℕ) → comes_before values u v ≡ true → (frequency values v < frequency values u) ⊎ ((frequency values v ≡ frequency values u) × (u < v))
comes_cases values u v h =
    elim (or_cases (nat_lt (frequency values v) (frequency values u)) ((frequency values v == frequency values u) && nat_lt u v) h) [
      | inl more ↦ inl (ltb-true (frequency values v) (frequency values u) more)
      | inr same ↦
          let both = and_parts (frequency values v == frequency values u) (nat_lt u v) same in
          inr (eqb-true (frequency values v) (frequency values u) both.0, ltb-true u v both.1)
    ]

comes_from : (values : List ℕ) (u v : ℕ) → (frequency values v < frequency values u) ⊎ ((frequency values v ≡ frequency values u) × (u < v)) → comes_before values u v ≡ true
comes_from values u v (inl more) =
    let e = lt-ltb (frequency values v) (frequency values u) more in rw e refl
comes_from values u v (inr same) =
    or_right (nat_lt (frequency values v) (frequency values u)) ((frequency values v == frequency values u) && nat_lt u v)
    (and_from (frequency values v == frequency values u) (nat_lt u v) (eq-eqb (frequency values v) (frequency values u) same.0) (lt-ltb u v same.1))

code_irrefl : (values : List ℕ) (u : ℕ) → comes_before values u u ≡ false
code_irrefl values u =
    elim (cases_Bool (comes_before values u u)) [
      | inl before ↦ elim (comes_cases values u u before) [ inl more ↦ absurd (omega arith) | inr same ↦ absurd (let h = same.1 in omega arith) ]
      | inr none ↦ none
    ]

code_trans : (values : List ℕ) (u v w : ℕ) → comes_before values u v ≡ true → comes_before values v w ≡ true → comes_before values u w ≡ true
code_trans values u v w h k =
    comes_from values u w
    (elim (comes_cases values u v h) [
      | inl more ↦
          elim (comes_cases values v w k) [ inl more' ↦ inl (omega arith) | inr same' ↦ inl (let a = same'.0 in omega arith) ]
      | inr same ↦
          elim (comes_cases values v w k) [
            | inl more' ↦ inl (let a = same.0 in omega arith)
            | inr same' ↦ inr (let a = same.0 in let b = same'.0 in omega arith, let a = same.1 in let b = same'.1 in omega arith)
          ]
    ])

code_total : (values : List ℕ) (u v : ℕ) → comes_before values u v ≡ false → comes_before values v u ≡ false → u ≡ v
code_total values u v h k =
    elim (cases_order (frequency values u) (frequency values v)) [
      | inl equal ↦
          elim (cases_order u v) [
            | inl same ↦ same
            | inr differ ↦
                elim differ [
                  | inl less ↦ let e = comes_from values u v (inr (sym equal, less)) in cc
                  | inr more ↦ let e = comes_from values v u (inr (equal, more)) in cc
                ]
          ]
      | inr differ ↦
          elim differ [
            | inl less ↦ let e = comes_from values v u (inl less) in cc
            | inr more ↦ let e = comes_from values u v (inl more) in cc
          ]
    ]

pub code_order : (values : List ℕ) → IsStrictOrder (comes_before values)
code_order values = record { irrefl = code_irrefl values; trans = code_trans values; total = code_total values }

-- ---- lists

in_from : (xs : List ℕ) (x : ℕ) → Contains xs x → IsIn xs x
in_from [] x (k, lt, is) = absurd (omega arith)
in_from (y ∷ ys) x (zero, lt, is) = inl (sym is)
in_from (y ∷ ys) x (suc k, lt, is) = inr (in_from ys x (k, omega arith, is))

has_from : (xs : List ℕ) (x : ℕ) → IsIn xs x → Contains xs x
has_from [] x i = elim i [ ]
has_from (y ∷ ys) x (inl e) = (0, omega arith, sym e)
has_from (y ∷ ys) x (inr i) = let (k, lt, is) = has_from ys x i in (suc k, omega arith, is)

map_map : {A B C : Type 0} (f : B → C) (g : A → B) (xs : List A) → map f (map g xs) ≡ map (λ x. f (g x)) xs
map_map f g [] = refl
map_map f g (x ∷ xs) = ap (λ l. f (g x) ∷ l) (map_map f g xs)

rising_from_places : (before : ℕ → ℕ → Bool) (xs : List ℕ) → ((k : ℕ) → suc k < length xs → before (get_or xs k 0) (get_or xs (suc k) 0) ≡ true) → IsRising before xs
rising_from_places before [] h = tt
rising_from_places before (x ∷ []) h = tt
rising_from_places before (x ∷ y ∷ ys) h = (h 0 (omega arith), rising_from_places before (y ∷ ys) (λ k lt. h (suc k) (omega arith)))

-- one value more
frequency_cons : (v : ℕ) (values : List ℕ) (z : ℕ) (b : Bool) → (v == z) ≡ b → frequency (v ∷ values) z ≡ (if b then 1 else 0) + frequency values z
frequency_cons v values z b is =
    sum_by-cons (λ u. if u == z then 1 else 0) v values ∙ ap (λ (c : Bool). (if c then 1 else 0) + frequency values z) is

frequency_some : (values : List ℕ) (z : ℕ) → IsIn values z → 0 < frequency values z
frequency_some [] z i = elim i [ ]
frequency_some (v ∷ values) z (inl e) =
    let one : frequency (v ∷ values) z ≡ 1 + frequency values z = frequency_cons v values z true (eq-eqb v z (sym e)) in
    omega arith
frequency_some (v ∷ values) z (inr i) =
    let rest = frequency_some values z i in
    elim (cases_Bool (v == z)) [
      | inl same ↦
          let one : frequency (v ∷ values) z ≡ 1 + frequency values z = frequency_cons v values z true same in omega arith
      | inr differ ↦
          let none : frequency (v ∷ values) z ≡ 0 + frequency values z = frequency_cons v values z false differ in omega arith
    ]

frequency_in : (values : List ℕ) (z : ℕ) → 0 < frequency values z → IsIn values z
frequency_in [] z some = absurd (omega arith)
frequency_in (v ∷ values) z some =
    elim (cases_Bool (v == z)) [
      | inl same ↦ inl (sym (eqb-true v z same))
      | inr differ ↦
          let none : frequency (v ∷ values) z ≡ 0 + frequency values z = frequency_cons v values z false differ in
          inr (frequency_in values z (omega arith))
    ]

put_few : (before : ℕ → ℕ → Bool) (x : ℕ) (ys : List ℕ) → length (put before x ys) ≤ suc (length ys)
put_few before x [] = omega arith
put_few before x (y ∷ ys) =
    let rest = put_few before x ys in
    elim (cases_Bool (before x y)) [
      | inl less ↦ rw less (omega arith)
      | inr not_less ↦
          elim (cases_Bool (before y x)) [
            | inl more ↦ rw (not_less, more) (omega arith)
            | inr same ↦ rw (not_less, same) (omega arith)
          ]
    ]

order_few : (before : ℕ → ℕ → Bool) (xs : List ℕ) → length (in_order before xs) ≤ length xs
order_few before [] = omega arith
order_few before (x ∷ xs) = let one = put_few before x (in_order before xs) in let rest = order_few before xs in omega arith

-- there are no more entries than values
pub ranking_few : (values : List ℕ) → length (ranking_of values) ≤ length values
unfolding ranking_of
ranking_few values =
    let size : length (map (λ v. entry_of v (frequency values v)) (in_order (comes_before values) values)) ≡ length (in_order (comes_before values) values) =
    length-map (in_order (comes_before values) values) (λ v. entry_of v (frequency values v)) in
    let few = order_few (comes_before values) values in
    omega arith

-- nor are there values in a table
pub table_few : (values : List ℕ) (n : ℕ) (ranked : List (Reverse ℕ × ℕ)) (table : List ℕ) → ranked ≡ ranking_of values → table ≡ map value_at (take n ranked) → length table ≤ length values
table_few values n ranked table is from =
    let few = ranking_few values in
    let same : length ranked ≡ length (ranking_of values) = ap (λ (l : List (Reverse ℕ × ℕ)). length l) is in
    let size : length table ≡ length (take n ranked) = ap (λ (l : List ℕ). length l) from ∙ length-map (take n ranked) value_at in
    let part = length-take n ranked in
    omega arith

-- ---- two entries in turn

abbrev pub entry_cmp : Reverse ℕ × ℕ → Reverse ℕ × ℕ → Ordering
entry_cmp x y = ordering_then (nat_cmp y.0.0 x.0.0) (nat_cmp x.1 y.1)

not_less : (a b : ℕ) (o : Ordering) → MatchOrdering o (a < b) (a ≡ b) (b < a) → is_lt o ≡ false → b ≤ a
not_less a b Less h k = absurd cc
not_less a b Equal h k = omega arith
not_less a b Greater h k = omega arith

in_turn : (a b c d : ℕ) (o : Ordering) → MatchOrdering o (a < b) (a ≡ b) (b < a) → is_lt (ordering_then o (nat_cmp c d)) ≡ false → (b < a) ⊎ ((a ≡ b) × (d ≤ c))
in_turn a b c d Less h k = absurd cc
in_turn a b c d Equal h k = inr (h, not_less c d (nat_cmp c d) (ranks c d) k)
in_turn a b c d Greater h k = inl h

-- ---- the ranking

module _ (values : List ℕ) (es : List (ℕ × ℕ)) (ranked : List (Reverse ℕ × ℕ)) (unique : IsDistinct nat_eq (keys_of es)) (counts : (q : ℕ) → unwrap_or (lookup (nat_eq q) es) 0 ≡ frequency values q) (some : (q : ℕ) → lookup (nat_eq q) es ≡ Some 0 → ⊥)
    (moved : IsPermutation (map ranked_entry es) ranked) (sorted : IsSortedBy (λ x y. is_lt (entry_cmp x y)) ranked) where
  abbrev IsCounted : Reverse ℕ × ℕ → Type 0
  IsCounted e = count_at e ≡ frequency values (value_at e)

  entry_counted : (k : ℕ) (e d : ℕ × ℕ) → k < length es → get_or es k d ≡ e → e.1 ≡ frequency values e.0
  entry_counted k e d lt is =
      let there : Contains es e = (k, lt, get_or_default es k e d lt ∙ is) in
      let found : lookup (nat_eq e.0) es ≡ Some e.1 = lookup-from_Contains nat_eq_equiv e.0 e.1 es unique there in
      sym (ap (λ (o : Option ℕ). unwrap_or o 0) found) ∙ counts e.0

  all_counted : All IsCounted ranked
  all_counted =
      All-permutation IsCounted (map ranked_entry es) ranked moved
      (All-map IsCounted ranked_entry es (λ k d lt. entry_counted k (get_or es k d) d lt refl))

  abbrev held : List ℕ
  held = map value_at ranked

  keys_moved : IsPermutation (keys_of es) held
  keys_moved =
      subst (λ (l : List ℕ). IsPermutation l held) (map_map value_at ranked_entry es)
      (IsPermutation-map value_at (map ranked_entry es) ranked moved)

  held_apart : IsDistinct nat_eq held
  held_apart = IsDistinct-IsPermutation nat_eq (λ x y. flips x y) (keys_of es) held keys_moved unique
    where
      flips : (x y : ℕ) → nat_eq x y ≡ nat_eq y x
      flips x y = elim (cases_eq x y) [
        | inl same ↦ eq-eqb x y same ∙ sym (eq-eqb y x (sym same))
        | inr differ ↦ ne_eqb x y differ ∙ sym (ne_eqb y x (λ e. differ (sym e)))
      ]

  held_at : (k : ℕ) (d : Reverse ℕ × ℕ) → k < length ranked → get_or held k 0 ≡ value_at (get_or ranked k d)
  held_at k d lt = get_or-map value_at ranked k d 0 lt

  step : (k : ℕ) → suc k < length held → comes_before values (get_or held k 0) (get_or held (suc k) 0) ≡ true
  step k lt =
      let size : length held ≡ length ranked = length-map ranked value_at in
      let d : Reverse ℕ × ℕ = entry_of 0 0 in
      let one : k + 1 ≡ suc k = omega arith in
      let a = get_or ranked k d in
      let b = get_or ranked (suc k) d in
      let turn : is_lt (entry_cmp b a) ≡ false = subst (λ (n : ℕ). is_lt (entry_cmp (get_or ranked n d) a) ≡ false) one (sorted k d (omega arith) (omega arith)) in
      let first : get_or held k 0 ≡ value_at a = held_at k d (omega arith) in
      let second : get_or held (suc k) 0 ≡ value_at b = held_at (suc k) d (omega arith) in
      let first_count : count_at a ≡ frequency values (value_at a) = all_counted k d (omega arith) in
      let second_count : count_at b ≡ frequency values (value_at b) = all_counted (suc k) d (omega arith) in
      let apart = apart_from_distinct nat_eq held k (suc k) 0 held_apart (omega arith) lt in
      let differ : value_at a ≡ value_at b → ⊥ = λ e. eqb-false (get_or held k 0) (get_or held (suc k) 0) apart (first ∙ e ∙ sym second) in
      rw (first, second)
      (comes_from values (value_at a) (value_at b)
      (elim (in_turn (count_at a) (count_at b) (value_at b) (value_at a) (nat_cmp (count_at a) (count_at b)) (ranks (count_at a) (count_at b)) turn) [
        | inl more ↦ inl (omega arith)
        | inr same ↦ inr (
          let e = same.0 in omega arith,
          elim (cases_order (value_at a) (value_at b)) [
            | inl equal ↦ absurd (differ equal)
            | inr either ↦ elim either [ inl less ↦ less | inr above ↦ absurd (let le = same.1 in omega arith) ]
          ],
        )
      ]))

  rising : IsRising (comes_before values) held
  rising = rising_from_places (comes_before values) held step

  key_in : (z : ℕ) (o : Option ℕ) → lookup (nat_eq z) es ≡ o → IsSome o → IsIn values z
  key_in z None is h = absurd (let e : false ≡ true = h in cc)
  key_in z (Some zero) is h = absurd (some z is)
  key_in z (Some (suc n)) is h =
      let count : suc n ≡ frequency values z = sym (ap (λ (o : Option ℕ). unwrap_or o 0) is) ∙ counts z in
      frequency_in values z (omega arith)

  value_some : (z : ℕ) (o : Option ℕ) → lookup (nat_eq z) es ≡ o → 0 < frequency values z → IsSome o
  value_some z None is h = absurd (let count : 0 ≡ frequency values z = sym (ap (λ (o : Option ℕ). unwrap_or o 0) is) ∙ counts z in omega arith)
  value_some z (Some n) is h = refl

  held_in : (z : ℕ) → IsIn held z → IsIn values z
  held_in z i =
      let there : Contains (keys_of es) z = Contains-permutation held (keys_of es) z (IsPermutation-sym (keys_of es) held keys_moved) (has_from held z i) in
      key_in z (lookup (nat_eq z) es) refl (IsSome-lookup_from_Contains nat_eq_equiv z es there)

  in_held : (z : ℕ) → IsIn values z → IsIn held z
  in_held z i =
      let found = value_some z (lookup (nat_eq z) es) refl (frequency_some values z i) in
      let there : Contains (keys_of es) z = Contains-keys_from_lookup exact_unsigned_eq z es found in
      in_from held z (Contains-permutation (keys_of es) held z keys_moved there)

  held_is : held ≡ in_order (comes_before values) values
  held_is =
      OrderLaws.rising_same (comes_before values) (code_order values) held (in_order (comes_before values) values) rising
      (OrderLaws.in_order_rising (comes_before values) (code_order values) values)
      (λ z i. OrderLaws.in_in_order (comes_before values) (code_order values) values z (held_in z i))
      (λ z i. in_held z (OrderLaws.in_order_from (comes_before values) (code_order values) values z i))

  counted_again : (e : Reverse ℕ × ℕ) → IsCounted e → entry_of (value_at e) (frequency values (value_at e)) ≡ e
  counted_again e is = λ i. (record { 0 = sym is i }, e.1)

  -- the entries, sorted, are the ranking
  pub ranked_is : ranked ≡ ranking_of values
  unfolding ranking_of
  ranked_is =
      let f : ℕ → Reverse ℕ × ℕ = λ v. entry_of v (frequency values v) in
      let same : map (λ e. f (value_at e)) ranked ≡ ranked = map_fixed (λ e. f (value_at e)) ranked (λ k d lt. counted_again (get_or ranked k d) (all_counted k d lt)) in
      sym same ∙ sym (map_map f value_at ranked) ∙ ap (map f) held_is
