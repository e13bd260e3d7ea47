-- The keys that are misled in the order of their signatures.
use Rattle.std.proofs.Common.{◌≡◌, ◌≢◌, ℕ, zero, suc, ◌+◌, ◌^◌, ◌<◌, ◌≤◌, ◌==◌, Bool, true, false, if◌then◌else◌, List, [], ◌∷◌, length, map, get_or, All, refl, sym, ap, subst, ◌∙◌, arith, inl, inr}
use Rattle.std.specs.Prelude.{Contains, nat_lt, filter}
use Rattle.std.specs.Cmp.{nat_cmp_is}
use Rattle.std.specs.List.{IsDistinct, enumerate_from, slice_index_or}
use Rattle.std.specs.List.Sorted.{IsPermutation, IsSortedBy}
use Rattle.std.specs.Ordering.{is_lt, nat_cmp, ordering_then}
use Rattle.std.specs.declared.cmp.Ordering.{Ordering}
use Rattle.std.specs.declared.cmp.Ordering.TheVariants.{Less, Equal, Greater}
use Rattle.std.proofs.lemmas.Bool.{cases_Bool, cases_eq, cases_lt, eq-eqb, ne_eqb, lt-ltb, ltb-true}
use Rattle.std.proofs.lemmas.List.{get_or-map, length-map}
use Rattle.std.proofs.lemmas.List.FromFn.{length-enumerate_from}
use Rattle.std.proofs.lemmas.List.Sorted.{Contains-permutation, IsPermutation-sym}
use Rattle.std.proofs.lemmas.Map.Keys.{IsDistinct-IsPermutation, IsDistinct-from_apart, apart_from_distinct}
use Rattle.sx_spec_strings.specs.Bits.{Bits, is_below, key_bits}
use Rattle.sx_spec_strings.specs.Ordered.{IsIn, IsRising, in_order, put}
use Rattle.sx_spec_strings.proofs.OrderLaws
use Rattle.sx_spec_kinds.specs.Blocks.{block_of}
use Rattle.sx_spec_kinds.specs.DynamicSet.{is_line_below}
use Rattle.sx_spec_kinds.specs.Zfast.{Corrected as SpecCorrected, HandleMap, corrections_of, is_misled, misled_keys}
use Rattle.sx_spec.specs.declared.Plan.{Plan}
use Rattle.sx_spec.specs.declared.Signature.{Signature}
use Rattle.sx_spec.specs.Built.{entry_before, signed_corrections}
use Rattle.sx_spec.specs.Command.{Text}
use Rattle.sx_spec.specs.Layout.{Header}
use Rattle.sx_spec.specs.Parts.{least_width}
use Rattle.sx_spec.specs.Reply.{sign}
use Rattle.sx_spec.specs.Signature.{signature}
use Rattle.sx_spec.specs.StaticFunction.{AllDiffer, Entry}
use Rattle.sx_spec.proofs.Bounds.{count_le, least_width_le}
use Rattle.sx_spec.proofs.Members.{entry_order, from_corrections, from_map, length_filter_le}
use Rattle.sx_sig.proofs.EqualPairs.{entry_cmp}
use Rattle.sx_zfast.specs.declared.correcting.Corrected.{Corrected}
use Rattle.sx_zfast.specs.Corrected.{corrected_as}
use Rattle.sx_parts.specs.Assembling.{key_signature}
use Rattle.sx_parts.specs.Ranking.{no_signature, signature_at}
use Rattle.sx_parts.specs.Sectioning.{header_for}
use Rattle.sx_assemble.specs.Handling.{RiseFrom, entry_for, ranks_of}

-- ---- the order of entries

then_assoc : (a b c : Ordering) → ordering_then (ordering_then a b) c ≡ ordering_then a (ordering_then b c)
then_assoc Less b c = refl
then_assoc Equal b c = refl
then_assoc Greater b c = refl

then_equal : (a : Ordering) → ordering_then a Equal ≡ a
then_equal Less = refl
then_equal Equal = refl
then_equal Greater = refl

-- one word more in front
word_first : (a b : ℕ) (o : Ordering) (r : Bool) → is_lt o ≡ r → is_lt (ordering_then (nat_cmp a b) o) ≡ (if a == b then r else nat_lt a b)
word_first a b o r is =
    elim (cases_eq a b) [
      | inl same ↦ let test : (a == b) ≡ true = eq-eqb a b same in ap (λ (c : Ordering). is_lt (ordering_then c o)) (sym (nat_cmp_is a b Equal same)) ∙ is ∙ sym (ap (λ (t : Bool). if t then r else nat_lt a b) test)
      | inr differ ↦
          let test : (a == b) ≡ false = ne_eqb a b differ in
          elim (cases_lt a b) [
            | inl less ↦ let below : nat_lt a b ≡ true = lt-ltb a b less in ap (λ (c : Ordering). is_lt (ordering_then c o)) (sym (nat_cmp_is a b Less less)) ∙ sym below ∙ sym (ap (λ (t : Bool). if t then r else nat_lt a b) test)
            | inr more ↦ ap (λ (c : Ordering). is_lt (ordering_then c o)) (sym (nat_cmp_is a b Greater (above a b differ more))) ∙ sym (not_below a b more) ∙ sym (ap (λ (t : Bool). if t then r else nat_lt a b) test)
          ]
    ]
  where
    above : (a b : ℕ) → a ≢ b → b ≤ a → b < a
    above a b differ le = elim (cases_lt b a) [ inl lt ↦ lt | inr ge ↦ absurd (differ (omega arith)) ]

    not_below : (a b : ℕ) → b ≤ a → nat_lt a b ≡ false
    not_below a b le = elim (cases_Bool (nat_lt a b)) [ inl yes_ ↦ absurd (let lt = ltb-true a b yes_ in omega arith) | inr none ↦ none ]

-- the order of a sort is that of the definitions
less_is : (x y : Entry) → is_lt (entry_cmp x y) ≡ entry_before x y
less_is x y =
    let last : is_lt (nat_cmp x.1 y.1) ≡ is_line_below (x.1 ∷ []) (y.1 ∷ []) = ap is_lt (sym (then_equal (nat_cmp x.1 y.1))) ∙ word_first x.1 y.1 Equal false refl in
    let third = word_first x.0.w2 y.0.w2 (nat_cmp x.1 y.1) _ last in
    let second = word_first x.0.w1 y.0.w1 (ordering_then (nat_cmp x.0.w2 y.0.w2) (nat_cmp x.1 y.1)) _ third in
    let first = word_first x.0.w0 y.0.w0 (ordering_then (nat_cmp x.0.w1 y.0.w1) (ordering_then (nat_cmp x.0.w2 y.0.w2) (nat_cmp x.1 y.1))) _ second in
    ap is_lt (then_assoc (nat_cmp x.0.w0 y.0.w0) (ordering_then (nat_cmp x.0.w1 y.0.w1) (nat_cmp x.0.w2 y.0.w2)) (nat_cmp x.1 y.1)
    ∙ ap (ordering_then (nat_cmp x.0.w0 y.0.w0)) (then_assoc (nat_cmp x.0.w1 y.0.w1) (nat_cmp x.0.w2 y.0.w2) (nat_cmp x.1 y.1)))
    ∙ first

-- ---- entries that differ, sorted

-- neither comes before the other
abbrev pub tied_by : Bool → Bool → Bool
tied_by true b = false
tied_by false true = false
tied_by false false = true

abbrev pub tied : Entry → Entry → Bool
tied x y = tied_by (entry_before x y) (entry_before y x)

flip_by : (a b : Bool) → tied_by a b ≡ tied_by b a
flip_by true true = refl
flip_by true false = refl
flip_by false true = refl
flip_by false false = refl

flips : (x y : Entry) → tied x y ≡ tied y x
flips x y = flip_by (entry_before x y) (entry_before y x)

one_by : (a b : Bool) → tied_by a b ≡ true → (a ≡ false) × (b ≡ false)
one_by true b h = absurd cc
one_by false true h = absurd cc
one_by false false h = (refl, refl)

one : (x y : Entry) → tied x y ≡ true → x ≡ y
one x y h = let (a, b) = one_by (entry_before x y) (entry_before y x) h in entry_order.total x y a b

none_before : (a b : Bool) → a ≡ false → b ≡ false → tied_by a b ≡ true
none_before true b h k = absurd cc
none_before false true h k = absurd cc
none_before false false h k = refl

tied_self : (x y : Entry) → entry_before x y ≡ false → entry_before y x ≡ false → tied x y ≡ true
tied_self x y h k = none_before (entry_before x y) (entry_before y x) h k

in_from : {A : Type 0} (xs : List A) (x : A) → Contains xs x → IsIn xs x
in_from [] x (k, lt, is) = absurd (omega arith)
in_from (y ∷ ys) x (zero, lt, is) = inl (sym is)
in_from (y ∷ ys) x (suc k, lt, is) = inr (in_from ys x (k, omega arith, is))

has_from : {A : Type 0} (xs : List A) (x : A) → IsIn xs x → Contains xs x
has_from [] x i = elim i [ ]
has_from (y ∷ ys) x (inl e) = (0, omega arith, sym e)
has_from (y ∷ ys) x (inr i) = let (k, lt, is) = has_from ys x i in (suc k, omega arith, is)

abbrev no_entry : Entry
no_entry = (no_signature, 0)

rising_places : (xs : List Entry) → ((k : ℕ) → suc k < length xs → entry_before (get_or xs k no_entry) (get_or xs (suc k) no_entry) ≡ true) → IsRising entry_before xs
rising_places [] h = tt
rising_places (x ∷ []) h = tt
rising_places (x ∷ y ∷ ys) h = (h 0 (omega arith), rising_places (y ∷ ys) (λ k lt. h (suc k) (omega arith)))

-- entries of which no two are one, sorted, are in order
module _ (xs ys : List Entry) (moved : IsPermutation xs ys) (sorted : IsSortedBy (λ x y. is_lt (entry_cmp x y)) ys) (distinct : IsDistinct tied xs) where
  apart : IsDistinct tied ys
  apart = IsDistinct-IsPermutation tied flips xs ys moved distinct

  step : (k : ℕ) → suc k < length ys → entry_before (get_or ys k no_entry) (get_or ys (suc k) no_entry) ≡ true
  step k lt =
      let a = get_or ys k no_entry in
      let b = get_or ys (suc k) no_entry in
      let e : k + 1 ≡ suc k = omega arith in
      let turn : is_lt (entry_cmp b a) ≡ false = subst (λ (n : ℕ). is_lt (entry_cmp (get_or ys n no_entry) a) ≡ false) e (sorted k no_entry (omega arith) (omega arith)) in
      let back : entry_before b a ≡ false = sym (less_is b a) ∙ turn in
      let differ : tied a b ≡ false = apart_from_distinct tied ys k (suc k) no_entry apart (omega arith) lt in
      elim (cases_Bool (entry_before a b)) [
        | inl before ↦ before
        | inr not_before ↦ let same = tied_self a b not_before back in absurd (let f : false ≡ true = sym differ ∙ same in cc)
      ]

  pub sorted_is : ys ≡ in_order entry_before xs
  sorted_is =
      OrderLaws.rising_same entry_before entry_order ys (in_order entry_before xs) (rising_places ys step)
      (OrderLaws.in_order_rising entry_before entry_order xs)
      (λ z i. OrderLaws.in_in_order entry_before entry_order xs z (in_from xs z (Contains-permutation ys xs z (IsPermutation-sym xs ys moved) (has_from ys z i))))
      (λ z i. in_from ys z (Contains-permutation xs ys z moved (has_from xs z (OrderLaws.in_order_from entry_before entry_order xs z i))))

-- ---- the entries of keys

later : (n : ℕ) (ms : List ℕ) → RiseFrom n ms → (j : ℕ) → j < length ms → n ≤ get_or ms j 0
later n [] rise j lt = absurd (omega arith)
later n (m ∷ ms) rise zero lt = rise.0
later n (m ∷ ms) rise (suc j) lt = let low = rise.0 in let rest = later (m + 1) ms rise.1 j (omega arith) in omega arith

rising_at : (n : ℕ) (ms : List ℕ) → RiseFrom n ms → (i j : ℕ) → i < j → j < length ms → get_or ms i 0 < get_or ms j 0
rising_at n [] rise i j less lt = absurd (omega arith)
rising_at n (m ∷ ms) rise zero zero less lt = absurd (omega arith)
rising_at n (m ∷ ms) rise zero (suc j) less lt = let h = later (m + 1) ms rise.1 j (omega arith) in omega arith
rising_at n (m ∷ ms) rise (suc i) zero less lt = absurd (omega arith)
rising_at n (m ∷ ms) rise (suc i) (suc j) less lt = rising_at (m + 1) ms rise.1 i j (omega arith) (omega arith)

abbrev no_key : Corrected
no_key = record { rank = 0; probe = 0; block = 0 }

pub entries_distinct : (sigs : List Signature) (cs : List Corrected) → All (λ (c : Corrected). c.rank < length sigs) cs → RiseFrom 0 (ranks_of cs) → AllDiffer sigs → IsDistinct tied (map (entry_for sigs) cs)
entries_distinct sigs cs inside rise differ =
    IsDistinct-from_apart tied (map (entry_for sigs) cs)
    (λ i j d less lt.
    let size : length (map (entry_for sigs) cs) ≡ length cs = length-map cs (entry_for sigs) in
    let count : length (ranks_of cs) ≡ length cs = length-map cs (λ (c : Corrected). c.rank) in
    let a = get_or cs i no_key in
    let b = get_or cs j no_key in
    let at_i : get_or (map (entry_for sigs) cs) i d ≡ entry_for sigs a = get_or-map (entry_for sigs) cs i no_key d (omega arith) in
    let at_j : get_or (map (entry_for sigs) cs) j d ≡ entry_for sigs b = get_or-map (entry_for sigs) cs j no_key d (omega arith) in
    let rank_i : get_or (ranks_of cs) i 0 ≡ a.rank = get_or-map (λ (c : Corrected). c.rank) cs i no_key 0 (omega arith) in
    let rank_j : get_or (ranks_of cs) j 0 ≡ b.rank = get_or-map (λ (c : Corrected). c.rank) cs j no_key 0 (omega arith) in
    let rises = rising_at 0 (ranks_of cs) rise i j less (omega arith) in
    let within : b.rank < length sigs = inside j no_key (omega arith) in
    elim (cases_Bool (tied (get_or (map (entry_for sigs) cs) i d) (get_or (map (entry_for sigs) cs) j d))) [
      | inr apart ↦ apart
      | inl same ↦
          let e : entry_for sigs a ≡ entry_for sigs b = sym at_i ∙ one (get_or (map (entry_for sigs) cs) i d) (get_or (map (entry_for sigs) cs) j d) same ∙ at_j in
          absurd (differ a.rank b.rank no_signature (omega arith) within (ap (λ (t : Entry). t.0) e))
    ])

-- ---- what is misled

rises_lower : (n m : ℕ) (ms : List ℕ) → n ≤ m → RiseFrom m ms → RiseFrom n ms
rises_lower n m [] le rise = tt
rises_lower n m (x ∷ xs) le rise = (let h = rise.0 in omega arith, rise.1)

numbers_rise : (p : ℕ × Bits → Bool) (n : ℕ) (keys : List Bits) → RiseFrom n (map (λ (t : ℕ × Bits). t.0) (filter p (enumerate_from n keys)))
numbers_rise p n [] = tt
numbers_rise p n (k ∷ keys) =
    let rest = numbers_rise p (n + 1) keys in
    elim (cases_Bool (p (n, k))) [
      | inl passes ↦ rw passes (omega arith, rest)
      | inr fails ↦ rw fails (rises_lower n (n + 1) (map (λ (t : ℕ × Bits). t.0) (filter p (enumerate_from (n + 1) keys))) (omega arith) rest)
    ]

map_map : {A B C : Type 0} (f : B → C) (g : A → B) (xs : List A) → map f (map g xs) ≡ map (λ x. f (g x)) xs
map_map f g [] = refl
map_map f g (x ∷ xs) = ap (λ l. f (g x) ∷ l) (map_map f g xs)

abbrev rank_in : SpecCorrected → ℕ
rank_in c = c.rank

ranks_rise : (m : HandleMap) (ds keys : List Bits) → RiseFrom 0 (map rank_in (misled_keys m ds keys))
unfolding misled_keys
ranks_rise m ds keys =
    let kept = filter (λ (t : ℕ × Bits). is_misled m ds t.1) (enumerate_from 0 keys) in
    subst (RiseFrom 0) (sym (map_map rank_in _ kept)) (numbers_rise (λ (t : ℕ × Bits). is_misled m ds t.1) 0 keys)

misled_few : (m : HandleMap) (ds keys : List Bits) → length (misled_keys m ds keys) ≤ length keys
unfolding misled_keys
misled_few m ds keys =
    let kept = filter (λ (t : ℕ × Bits). is_misled m ds t.1) (enumerate_from 0 keys) in
    let a = length_filter_le (λ (t : ℕ × Bits). is_misled m ds t.1) (enumerate_from 0 keys) in
    let b = length-enumerate_from 0 keys in
    subst (λ (n : ℕ). n ≤ length keys) (sym (length-map kept _)) (omega arith)

pub corrections_rise : (m : HandleMap) (ds keys : List Bits) → RiseFrom 0 (map rank_in (corrections_of m ds keys))
unfolding corrections_of
corrections_rise m [] keys = tt
corrections_rise m (d ∷ []) keys = tt
corrections_rise m (d ∷ e ∷ ds) keys = ranks_rise m (d ∷ e ∷ ds) keys

pub corrections_few : (m : HandleMap) (ds keys : List Bits) → length (corrections_of m ds keys) ≤ length keys
unfolding corrections_of
corrections_few m [] keys = omega arith
corrections_few m (d ∷ []) keys = omega arith
corrections_few m (d ∷ e ∷ ds) keys = misled_few m (d ∷ e ∷ ds) keys

-- ---- the order's length

put_few : (x : Entry) (ys : List Entry) → length (put entry_before x ys) ≤ suc (length ys)
put_few x [] = omega arith
put_few x (y ∷ ys) =
    let rest = put_few x ys in
    elim (cases_Bool (entry_before x y)) [
      | inl less ↦ rw less (omega arith)
      | inr not_less ↦
          elim (cases_Bool (entry_before y x)) [
            | inl more ↦ rw (not_less, more) (omega arith)
            | inr same ↦ rw (not_less, same) (omega arith)
          ]
    ]

pub order_few : (xs : List Entry) → length (in_order entry_before xs) ≤ length xs
order_few [] = omega arith
order_few (x ∷ xs) = let a = put_few x (in_order entry_before xs) in let b = order_few xs in omega arith

-- ---- what is misled as it is found, by the definitions

module _ (h : Header) (m : HandleMap) (ds keys : List Bits) where
  pub signed_few : length (signed_corrections h m ds keys) ≤ length keys
  unfolding signed_corrections
  signed_few =
      let entry : SpecCorrected → Entry = λ c. (sign h (slice_index_or keys c.rank []), c.block) in
      let a = order_few (map entry (corrections_of m ds keys)) in
      let b = length-map (corrections_of m ds keys) entry in
      let c = corrections_few m ds keys in
      omega arith

  -- the blocks have at most 32 bits
  pub blocks_narrow : length ds < 2 ^ 32 → least_width (map (λ (e : Entry). e.1) (signed_corrections h m ds keys)) ≤ 32
  unfolding signed_corrections
  blocks_narrow few =
      let entry : SpecCorrected → Entry = λ c. (sign h (slice_index_or keys c.rank []), c.block) in
      let entries = map entry (corrections_of m ds keys) in
      least_width_le 32 (map (λ (e : Entry). e.1) (in_order entry_before entries))
      (λ x i.
      let (e, j, is) = from_map (λ (e : Entry). e.1) (in_order entry_before entries) x i in
      let (c, k, same) = from_map entry (corrections_of m ds keys) e (OrderLaws.in_order_from entry_before entry_order entries e j) in
      let (below, block) = from_corrections m ds keys c k in
      let most = count_le (λ d. is_below d (slice_index_or keys c.rank [])) ds in
      let number : x ≡ block_of ds (slice_index_or keys c.rank []) = is ∙ ap (λ (t : Entry). t.1) same ∙ block in
      omega arith)

module _ (plan : Plan) (seed : ℕ) (lines : List Text) (m : HandleMap) (ds : List Bits) (cs : List Corrected) (are : map corrected_as cs ≡ corrections_of m ds (map key_bits lines)) where
  abbrev strings : List Bits
  strings = map key_bits lines

  pub found_rise : RiseFrom 0 (ranks_of cs)
  found_rise = subst (RiseFrom 0) (ap (map rank_in) (sym are) ∙ map_map rank_in corrected_as cs) (corrections_rise m ds strings)

  pub found_few : length cs ≤ length lines
  found_few =
      let a = corrections_few m ds strings in
      let b : length (map corrected_as cs) ≡ length (corrections_of m ds strings) = ap (λ (l : List SpecCorrected). length l) are in
      let c = length-map cs corrected_as in
      let d = length-map lines key_bits in
      omega arith

  pub found_inside : All (λ (c : Corrected). c.rank < length lines) cs
  found_inside = λ k d lt.
      let there : IsIn (corrections_of m ds strings) (corrected_as (get_or cs k d)) = subst (λ (l : List SpecCorrected). IsIn l (corrected_as (get_or cs k d))) are (mapped_in cs k d lt) in
      let (below, block) = from_corrections m ds strings (corrected_as (get_or cs k d)) there in
      let n = length-map lines key_bits in
      omega arith
    where
      mapped_in : (cs : List Corrected) (k : ℕ) (d : Corrected) → k < length cs → IsIn (map corrected_as cs) (corrected_as (get_or cs k d))
      mapped_in [] k d lt = absurd (omega arith)
      mapped_in (c ∷ cs) zero d lt = inl refl
      mapped_in (c ∷ cs) (suc k) d lt = inr (mapped_in cs k d (omega arith))

  module _ (sigs : List Signature) (signed : sigs ≡ map (key_signature seed plan.sig_bits) lines) where
    abbrev entry_in : SpecCorrected → Entry
    entry_in c = (sign (header_for plan lines seed) (slice_index_or (map key_bits lines) c.rank []), c.block)

    one_entry : (c : Corrected) → c.rank < length lines → entry_for sigs c ≡ entry_in (corrected_as c)
    one_entry c lt =
        let a : signature_at sigs c.rank ≡ key_signature seed plan.sig_bits (get_or lines c.rank []) =
        ap (λ (l : List Signature). get_or l c.rank no_signature) signed ∙ get_or-map (key_signature seed plan.sig_bits) lines c.rank [] no_signature lt in
        let b : get_or strings c.rank [] ≡ key_bits (get_or lines c.rank []) = get_or-map key_bits lines c.rank [] [] lt in
        λ i. ((a ∙ ap (signature seed plan.sig_bits) (sym b)) i, c.block)

    all_entries : (cs : List Corrected) → All (λ (c : Corrected). c.rank < length lines) cs → map (entry_for sigs) cs ≡ map entry_in (map corrected_as cs)
    all_entries [] all = refl
    all_entries (c ∷ cs) all = λ i. one_entry c (all 0 no_key (omega arith)) i ∷ all_entries cs (λ k d lt. all (suc k) d (omega arith)) i

    -- the entries in order are those of the definitions
    pub entries_signed : in_order entry_before (map (entry_for sigs) cs) ≡ signed_corrections (header_for plan lines seed) m ds (map key_bits lines)
    unfolding signed_corrections
    entries_signed = ap (in_order entry_before) (all_entries cs found_inside ∙ ap (map entry_in) are)
