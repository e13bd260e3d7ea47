-- Common prefixes and the order of strings, by their bits.
use Rattle.std.proofs.Common.{◌≡◌, ℕ, zero, suc, ◌<◌, ◌≤◌, Bool, true, false, [], ◌∷◌, length, get_or, refl, sym, ap, ◌∙◌, arith, inl, inr}
use Rattle.std.specs.Prelude.{if◌then◌else◌}
use Rattle.std.specs.declared.cmp.Ordering.{Ordering}
use Rattle.std.specs.declared.cmp.Ordering.TheVariants.{Less, Equal, Greater}
use Rattle.std.specs.Ordering.{bool_cmp, nat_cmp, ordering_then}
use Rattle.std.specs.Cmp.{nat_cmp_is}
use Rattle.std.proofs.lemmas.Bool.{cases_Bool, cases_order}
use Rattle.sx_spec_strings.specs.Bits.{Bits, bit_eq, bits_cmp, common_prefix}
use Rattle.sx_spec_strings.proofs.BitLaws.{bit_same, bit_eq_refl}

common_cons : (b c : Bool) (x y : Bits) → bit_eq b c ≡ true → length (common_prefix (b ∷ x) (c ∷ y)) ≡ suc (length (common_prefix x y))
common_cons b c x y same = rw same refl

-- strings that agree so far, and where one has ended or they part, have a common prefix of this length
pub common_length : (x y : Bits) (n : ℕ) → n ≤ length x → n ≤ length y → ((j : ℕ) → j < n → get_or x j false ≡ get_or y j false)
    → (n < length x → n < length y → get_or x n false ≡ get_or y n false → ⊥) → n ≡ length (common_prefix x y)
common_length [] y zero lx ly agree part = refl
common_length [] y (suc n) lx ly agree part = absurd (omega arith)
common_length (b ∷ x) [] zero lx ly agree part = refl
common_length (b ∷ x) [] (suc n) lx ly agree part = absurd (omega arith)
common_length (b ∷ x) (c ∷ y) zero lx ly agree part =
    elim (cases_Bool (bit_eq b c)) [
      | inl same ↦ absurd (part (omega arith) (omega arith) (bit_same b c same))
      | inr differ ↦ rw differ refl
    ]
common_length (b ∷ x) (c ∷ y) (suc n) lx ly agree part =
    let first : b ≡ c = agree zero (omega arith) in
    let same : bit_eq b c ≡ true = ap (bit_eq b) (sym first) ∙ bit_eq_refl b in
    ap suc (common_length x y n (omega arith) (omega arith) (λ j lt. agree (suc j) (omega arith)) (λ a d e. part (omega arith) (omega arith) e))
    ∙ sym (common_cons b c x y same)

-- the order of bits that differ
bits_part : (b c : Bool) (o : Ordering) → bit_eq b c ≡ false → ordering_then (bool_cmp b c) o ≡ (if c then Less else Greater)
bits_part true true o differ = absurd cc
bits_part true false o differ = refl
bits_part false true o differ = refl
bits_part false false o differ = absurd cc

bits_then : (b c : Bool) (o : Ordering) → bit_eq b c ≡ true → ordering_then (bool_cmp b c) o ≡ o
bits_then true true o same = refl
bits_then true false o same = absurd cc
bits_then false true o same = absurd cc
bits_then false false o same = refl

-- where neither string has ended, the first bits that differ decide
pub order_parted : (x y : Bits) → length (common_prefix x y) < length x → length (common_prefix x y) < length y
    → (if get_or y (length (common_prefix x y)) false then Less else Greater) ≡ bits_cmp x y
order_parted [] y lx ly = absurd (omega arith)
order_parted (b ∷ x) [] lx ly = absurd (omega arith)
order_parted (b ∷ x) (c ∷ y) lx ly =
    elim (cases_Bool (bit_eq b c)) [
      | inl same ↦
          let e = common_cons b c x y same in
          ap (λ n. if get_or (c ∷ y) n false then Less else Greater) e
          ∙ order_parted x y (omega arith) (omega arith)
          ∙ sym (bits_then b c (bits_cmp x y) same)
      | inr differ ↦
          let e : length (common_prefix (b ∷ x) (c ∷ y)) ≡ 0 = rw differ refl in
          ap (λ n. if get_or (c ∷ y) n false then Less else Greater) e
          ∙ sym (bits_part b c (bits_cmp x y) differ)
    ]

nat_cmp_suc : (m n : ℕ) → nat_cmp m n ≡ nat_cmp (suc m) (suc n)
nat_cmp_suc m n =
    elim (cases_order m n) [
      | inl same ↦ sym (nat_cmp_is m n Equal same) ∙ nat_cmp_is (suc m) (suc n) Equal (omega arith)
      | inr (inl less) ↦ sym (nat_cmp_is m n Less less) ∙ nat_cmp_is (suc m) (suc n) Less (omega arith)
      | inr (inr more) ↦ sym (nat_cmp_is m n Greater more) ∙ nat_cmp_is (suc m) (suc n) Greater (omega arith)
    ]

-- where one has ended, the lengths decide
pub order_ended : (x y : Bits) → (length (common_prefix x y) < length x → length (common_prefix x y) < length y → ⊥)
    → nat_cmp (length x) (length y) ≡ bits_cmp x y
order_ended [] [] ended = sym (nat_cmp_is 0 0 Equal refl)
order_ended [] (c ∷ y) ended = sym (nat_cmp_is 0 (suc (length y)) Less (omega arith))
order_ended (b ∷ x) [] ended = sym (nat_cmp_is (suc (length x)) 0 Greater (omega arith))
order_ended (b ∷ x) (c ∷ y) ended =
    elim (cases_Bool (bit_eq b c)) [
      | inl same ↦
          let e = common_cons b c x y same in
          sym (nat_cmp_suc (length x) (length y))
          ∙ order_ended x y (λ lx ly. ended (omega arith) (omega arith))
          ∙ sym (bits_then b c (bits_cmp x y) same)
      | inr differ ↦
          let e : length (common_prefix (b ∷ x) (c ∷ y)) ≡ 0 = rw differ refl in
          absurd (ended (omega arith) (omega arith))
    ]

-- the order by the bit of the second string that is read at the end of the common prefix
pub parted_by : (x y : Bits) (n : ℕ) (bit : Bool) → n ≡ length (common_prefix x y) → n < length x → n < length y → bit ≡ get_or y n false
    → (if bit then Less else Greater) ≡ bits_cmp x y
parted_by x y n bit is lx ly read =
    ap (λ (b : Bool). if b then Less else Greater) (read ∙ ap (λ m. get_or y m false) is) ∙ order_parted x y (omega arith) (omega arith)
