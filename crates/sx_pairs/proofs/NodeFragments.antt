-- The fragments of keys at a node: equal ones are neighbours, and the distinct ones stand in order.
use Rattle.std.proofs.Common.{◌≡◌, ℕ, zero, suc, ◌+◌, ◌-◌, ◌<◌, ◌≤◌, true, false, List, [], ◌∷◌, ◌++◌, length, get_or, take, drop, map, min, refl, sym, ap, ap₂, subst, ◌∙◌, arith, inl, inr}
use Rattle.std.proofs.lemmas.Bool.{cases_Bool, cases_lt, false_from_ne_true}
use Rattle.std.proofs.lemmas.List.{length-drop, length-take-le, take_all, take-take, drop-take}
use Rattle.std.proofs.Math.Seq.{take-add}
use Rattle.sx_spec_strings.specs.Bits.{Bits, AreKeyBits, begins_with, is_below}
use Rattle.sx_spec_strings.specs.Ordered.{IsStrictOrder, in_order, IsRising, IsIn}
use Rattle.sx_spec_strings.proofs.OrderLaws
use Rattle.sx_spec_strings.proofs.BitLaws.{begins_tail, begins_length, below_same_head, below_irrefl, below_trans, below_total}
use Rattle.sx_spec_strings.proofs.OrderedLaws.{in_order_from, in_in_order, in_order_rising}
use Rattle.sx_spec_kinds.specs.HollowDistributor.{fragment_of, visitors}
use Rattle.sx_spec_kinds.proofs.NameLaws.{begins_take, take_of_begins, in_at, at_in}
use Rattle.sx_spec_kinds.proofs.TrieLaws.{keys_prefix}
use Rattle.sx_spec_kinds.proofs.CountLaws.{in_under, under_from}
use Rattle.sx_spec_kinds.proofs.HollowDistLaws.{in_map}
use Rattle.sx_pairs.proofs.KeyRuns.{not_below}

bits_order : IsStrictOrder is_below
bits_order = record { irrefl = below_irrefl; trans = below_trans; total = below_total }

-- ---- cuts of strings

-- a cut at the string's end is the cut past it
pub take_min : (ext n : ℕ) (x : Bits) → take (min ext (length x) - n) (drop n x) ≡ take (ext - n) (drop n x)
take_min ext n x =
    elim (cases_lt ext (length x)) [
      | inl less ↦ let e : min ext (length x) ≡ ext = omega arith in ap (λ m. take (m - n) (drop n x)) e
      | inr over ↦
          let size = length-drop n x in
          take_all (min ext (length x) - n) (drop n x) (omega arith)
          ∙ sym (take_all (ext - n) (drop n x) (omega arith))
    ]

below_taken : (s : ℕ) (x y : Bits) → is_below (take s x) (take s y) ≡ true → is_below x y ≡ true
below_taken zero x y h = cc
below_taken (suc s) [] [] h = cc
below_taken (suc s) [] (c ∷ y) h = refl
below_taken (suc s) (b ∷ x) [] h = cc
below_taken (suc s) (false ∷ x) (false ∷ y) h = below_taken s x y h
below_taken (suc s) (false ∷ x) (true ∷ y) h = refl
below_taken (suc s) (true ∷ x) (false ∷ y) h = cc
below_taken (suc s) (true ∷ x) (true ∷ y) h = below_taken s x y h

below_dropped : (p x y : Bits) → begins_with x p ≡ true → begins_with y p ≡ true → is_below (drop (length p) x) (drop (length p) y) ≡ is_below x y
below_dropped [] x y h k = refl
below_dropped (d ∷ p) [] y h k = cc
below_dropped (d ∷ p) (b ∷ x) [] h k = cc
below_dropped (d ∷ p) (b ∷ x) (c ∷ y) h k =
    let first = begins_tail b d x p h in
    let second = begins_tail c d y p k in
    let e = first.0 in
    let f = second.0 in
    rw (e, f) (below_dropped p x y first.1 second.1 ∙ sym (below_same_head d x y))

-- what begins with a name is as long
pub as_long_as : (name : ℕ) (x d : Bits) → name ≤ length d → begins_with x (take name d) ≡ true → name ≤ length x
as_long_as name x d named h =
    let size = length-take-le name d named in
    let more = begins_length x (take name d) h in
    omega arith

-- ---- lists

map_from : {A B : Type 0} (f : A → B) (xs : List A) (z : B) → IsIn (map f xs) z → (x : A) × IsIn xs x × (z ≡ f x)
map_from f [] z i = elim i [ ]
map_from f (y ∷ xs) z (inl e) = (y, inl refl, e)
map_from f (y ∷ xs) z (inr i) = let there = map_from f xs z i in (there.0, inr there.1, there.2)

rising_end : (F : List Bits) (f : Bits) → IsRising is_below F → ((z : Bits) → IsIn F z → is_below z f ≡ true) → IsRising is_below (F ++ f ∷ [])
rising_end [] f h k = tt
rising_end (x ∷ []) f h k = (k x (inl refl), tt)
rising_end (x ∷ y ∷ F) f h k = (h.0, rising_end (y ∷ F) f h.1 (λ z i. k z (inr i)))

in_more : (F : List Bits) (f z : Bits) → IsIn F z → IsIn (F ++ f ∷ []) z
in_more [] f z i = elim i [ ]
in_more (x ∷ F) f z (inl e) = inl e
in_more (x ∷ F) f z (inr i) = inr (in_more F f z i)

in_last : (F : List Bits) (f : Bits) → IsIn (F ++ f ∷ []) f
in_last [] f = inl refl
in_last (x ∷ F) f = inr (in_last F f)

from_more : (F : List Bits) (f z : Bits) (P : Bits → Type 0) → ((y : Bits) → IsIn F y → P y) → P f → IsIn (F ++ f ∷ []) z → P z
from_more [] f z P each last (inl e) = rw e last
from_more [] f z P each last (inr i) = elim i [ ]
from_more (x ∷ F) f z P each last (inl e) = rw e (each x (inl refl))
from_more (x ∷ F) f z P each last (inr i) = from_more F f z P (λ y j. each y (inr j)) last i

-- ---- the keys that visit a node

-- where the keys are told whose numbers are below `key`, of those that visit the node
pub record AreTold (ks : List Bits) (d : Bits) (name ext end key : ℕ) (F : List Bits) : Type 0 where
  pub rising : IsRising is_below F
  pub from : (z : Bits) → IsIn F z → IsIn (map (fragment_of name (ext - name)) (visitors ks name d)) z
  pub done : (i : ℕ) → i < key → i < length ks → begins_with (get_or ks i []) (take name d) ≡ true → IsIn F (fragment_of name (ext - name) (get_or ks i []))
  pub below : (z : Bits) → IsIn F z → (i : ℕ) → key ≤ i → i < end → is_below z (fragment_of name (ext - name) (get_or ks i [])) ≡ true

module _ (ks : List Bits) (keys : AreKeyBits ks) (d : Bits) (name ext : ℕ) (ordered : name ≤ ext) (named : name ≤ length d) where
  abbrev frag : Bits → Bits
  frag x = fragment_of name (ext - name) x

  abbrev named_so : Bits → Type 0
  named_so x = begins_with x (take name d) ≡ true

  long : length (take name d) ≡ name
  long = length-take-le name d named

  name_of : (x : Bits) → named_so x → take name x ≡ take name d
  name_of x h = take_of_begins x (take name d) name h (let l = long in omega arith) ∙ take-take name name d (omega arith)

  -- the name and the fragment
  whole : (x : Bits) → take ext x ≡ take name x ++ frag x
  whole x = let e : name + (ext - name) ≡ ext = omega arith in ap (λ n. take n x) (sym e) ∙ take-add name (ext - name) x

  cut : (x : Bits) → frag x ≡ drop name (take ext x)
  cut x = let e : name + (ext - name) ≡ ext = omega arith in sym (ap (λ n. drop name (take n x)) (sym e) ∙ drop-take name (ext - name) x)

  -- the bits of a key up to the end of its fragment
  up_to_end : (y : Bits) → take (min ext (length y)) y ≡ take ext y
  up_to_end y =
      let e : min ext (length y) - 0 ≡ min ext (length y) = omega arith in
      let f : ext - 0 ≡ ext = omega arith in
      sym (ap (λ n. take n y) e) ∙ take_min ext 0 y ∙ ap (λ n. take n y) f

  -- of keys with the name no later one has a fragment below an earlier one's
  in_turn : (i j : ℕ) → i ≤ j → j < length ks → named_so (get_or ks i []) → named_so (get_or ks j []) → is_below (frag (get_or ks j [])) (frag (get_or ks i [])) ≡ false
  in_turn i j le inside h k =
      let x = get_or ks i [] in
      let y = get_or ks j [] in
      false_from_ne_true (is_below (frag y) (frag x)) (λ b.
      let dropped = below_taken (ext - name) (drop name y) (drop name x) b in
      let same : is_below (drop name y) (drop name x) ≡ is_below y x =
      ap (λ n. is_below (drop n y) (drop n x)) (sym long) ∙ below_dropped (take name d) y x k h in
      let not = not_below ks keys i j le inside in
      cc)

  -- what begins with a key's bits up to the end of its fragment has that fragment
  same_fragment : (x y : Bits) → IsIn ks x → IsIn ks y → begins_with x (take (min ext (length y)) y) ≡ true → frag x ≡ frag y
  same_fragment x y i j h =
      let h' : begins_with x (take ext y) ≡ true = subst (λ (q : Bits). begins_with x q ≡ true) (up_to_end y) h in
      elim (cases_lt ext (length y)) [
        | inl less ↦
            let size = length-take-le ext y (omega arith) in
            let e : take ext x ≡ take ext y = take_of_begins x (take ext y) ext h' (omega arith) ∙ take-take ext ext y (omega arith) in
            cut x ∙ ap (drop name) e ∙ sym (cut y)
        | inr over ↦
            let b : begins_with x y ≡ true = subst (λ (q : Bits). begins_with x q ≡ true) (take_all ext y over) h' in
            ap frag (keys_prefix ks y x keys j i b)
      ]

  -- what doesn't has another
  other_fragment : (x y : Bits) → named_so x → named_so y → begins_with x (take (min ext (length y)) y) ≡ false → frag x ≡ frag y → ⊥
  other_fragment x y h k not same =
      let e : take ext x ≡ take ext y = whole x ∙ ap₂ ◌++◌ (name_of x h ∙ sym (name_of y k)) same ∙ sym (whole y) in
      let b : begins_with x (take (min ext (length y)) y) ≡ true =
      subst (λ (q : Bits). begins_with x q ≡ true) (e ∙ sym (up_to_end y)) (begins_take ext x) in
      cc

  -- ---- the way through them

  module _ (start end : ℕ) (within : end ≤ length ks)
      (visits : (i : ℕ) → start ≤ i → i < end → named_so (get_or ks i [])) where
    pub told_none : ((i : ℕ) → i < start → begins_with (get_or ks i []) (take name d) ≡ false) → AreTold ks d name ext end start []
    told_none before = record {
      rising = tt;
      from = λ z i. elim i [ ];
      done = λ i lt inside b. let not = before i lt in absurd cc;
      below = λ z i. elim i [ ];
    }

    module _ (key next to : ℕ) (F : List Bits) (told : AreTold ks d name ext end key F) (low : start ≤ key) (high : key < end)
        (to_is : to ≡ min ext (length (get_or ks key []))) (above : key < next)
        (run : (i : ℕ) → key ≤ i → i < next → begins_with (get_or ks i []) (take to (get_or ks key [])) ≡ true)
        (beyond : (i : ℕ) → next ≤ i → i < length ks → begins_with (get_or ks i []) (take to (get_or ks key [])) ≡ false) where
      abbrev y : Bits
      y = get_or ks key []

      y_in : IsIn ks y
      y_in = in_at ks key (omega arith)

      later : (i : ℕ) → next ≤ i → i < end → is_below (frag y) (frag (get_or ks i [])) ≡ true
      later i from_next to_end =
          let x = get_or ks i [] in
          let h = visits i (omega arith) to_end in
          let k = visits key low high in
          let not : begins_with x (take (min ext (length y)) y) ≡ false = subst (λ (n : ℕ). begins_with x (take n y) ≡ false) to_is (beyond i from_next (omega arith)) in
          elim (cases_Bool (is_below (frag y) (frag x))) [
            | inl less ↦ less
            | inr neither ↦
                absurd (other_fragment x y h k not (below_total (frag x) (frag y) (in_turn key i (omega arith) (omega arith) k h) neither))
          ]

      pub told_more : AreTold ks d name ext end next (F ++ frag y ∷ [])
      told_more = record {
        rising = rising_end F (frag y) told.rising (λ z i. told.below z i key (omega arith) high);
        from = λ z i. from_more F (frag y) z (IsIn (map (fragment_of name (ext - name)) (visitors ks name d))) told.from
            (in_map (fragment_of name (ext - name)) (visitors ks name d) y (in_under ks (take name d) y y_in (visits key low high))) i;
        done = λ i lt inside b.
            elim (cases_lt i key) [
              | inl before ↦ in_more F (frag y) (frag (get_or ks i [])) (told.done i before inside b)
              | inr here ↦
                  let r = subst (λ (n : ℕ). begins_with (get_or ks i []) (take n y) ≡ true) to_is (run i here lt) in
                  let same = same_fragment (get_or ks i []) y (in_at ks i inside) y_in r in
                  subst (IsIn (F ++ frag y ∷ [])) (sym same) (in_last F (frag y))
            ];
        below = λ z i j from_next to_end.
            from_more F (frag y) z (λ (z : Bits). is_below z (frag (get_or ks j [])) ≡ true)
            (λ z' i'. told.below z' i' j (omega arith) to_end) (later j from_next to_end) i;
      }

    -- at the end these are the fragments in order
    pub told_all : (key : ℕ) (F : List Bits) → AreTold ks d name ext end key F → end ≤ key
        → ((i : ℕ) → end ≤ i → i < length ks → begins_with (get_or ks i []) (take name d) ≡ false)
        → F ≡ in_order is_below (map (fragment_of name (ext - name)) (visitors ks name d))
    told_all key F told over beyond =
        let all = map (fragment_of name (ext - name)) (visitors ks name d) in
        OrderLaws.rising_same is_below bits_order F (in_order is_below all) told.rising (in_order_rising all)
        (λ z i. in_in_order all z (told.from z i))
        (λ z i.
        let there = map_from (fragment_of name (ext - name)) (visitors ks name d) z (in_order_from all z i) in
        let kept = under_from ks (take name d) there.0 there.1 in
        let at = at_in ks there.0 kept.0 in
        let b : begins_with (get_or ks at.0 []) (take name d) ≡ true = subst (λ (q : Bits). begins_with q (take name d) ≡ true) (sym at.2) kept.1 in
        let early : at.0 < end = elim (cases_lt at.0 end) [
          | inl less ↦ less
          | inr late ↦ let not = beyond at.0 late at.1 in absurd cc
        ] in
        subst (IsIn F) (ap (fragment_of name (ext - name)) at.2 ∙ sym there.2) (told.done at.0 (omega arith) at.1 b))
