-- Binary search among signatures that rise.
use Rattle.std.proofs.Common.{◌≡◌, ℕ, zero, suc, ◌+◌, ◌/◌, ◌<◌, ◌≤◌, true, false, List, [], ◌∷◌, length, get_or, Some, None, refl, sym, ap, subst, ◌∙◌, arith, inl, inr}
use Rattle.std.specs.Prelude.{◌==◌}
use Rattle.std.specs.List.{range_with_len}
use Rattle.std.specs.Ordering.{is_lt, nat_cmp, ordering_reverse}
use Rattle.std.specs.declared.cmp.Ordering.{Ordering}
use Rattle.std.specs.declared.cmp.Ordering.TheVariants.{Less, Equal, Greater}
use Rattle.std.specs.Cmp.Lexicographic.{slice_cmp}
use Rattle.std.specs.Cmp.{tied_itself}
use Rattle.std.proofs.lemmas.Cmp.{nat_list_cmp_total}
use Rattle.std.proofs.lemmas.Bool.{and_parts, cases_Bool, cases_lt, eq-eqb, eqb-true}
use Rattle.std.proofs.lemmas.List.{length-map}
use Rattle.std.proofs.lemmas.List.FromFn.{get_or-map-range_with_len, length-range_with_len}
use Rattle.std.proofs.lemmas.Map.Lookups.{exact_bytes}
use Rattle.sx_spec_strings.specs.Numbers.{binary_digits}
use Rattle.sx_spec_strings.proofs.NumberLaws.{digits_half, digits_mono}
use Rattle.sx_spec.specs.declared.Signature.{Signature}
use Rattle.sx_spec.specs.Signature.{signature_cmp}
use Rattle.sx_spec.specs.Reply.{block_beside, signature_eq}
use Rattle.sx_sig.specs.SignatureWords.{rises, signature_at, signatures_at}

-- what stands past the end of a list of signatures
abbrev nothing : Signature
nothing = record { w0 = 0; w1 = 0; w2 = 0 }

abbrev words_of : Signature → List ℕ
words_of s = s.w0 ∷ s.w1 ∷ s.w2 ∷ []

less : (o : Ordering) → is_lt o ≡ true → o ≡ Less
less Less h = refl
less Equal h = cc
less Greater h = cc

-- ---- the order

chain : (s t u : Signature) → signature_cmp s t ≡ Less → signature_cmp t u ≡ Less → signature_cmp s u ≡ Less
chain s t u h k = nat_list_cmp_total.trans (words_of s) (words_of t) (words_of u) h k

turned : (s t : Signature) → signature_cmp s t ≡ ordering_reverse (signature_cmp t s)
turned s t = nat_list_cmp_total.antisymm (words_of s) (words_of t)

less_turned : (s t : Signature) → signature_cmp s t ≡ Less → signature_cmp t s ≡ Greater
less_turned s t h = turned t s ∙ ap ordering_reverse h

greater_turned : (s t : Signature) → signature_cmp s t ≡ Greater → signature_cmp t s ≡ Less
greater_turned s t h = turned t s ∙ ap ordering_reverse h

-- signatures that are found equal, word by word
equal_words : (s t : Signature) → signature_cmp s t ≡ Equal → words_of s ≡ words_of t
equal_words s t h = exact_bytes (words_of s) (words_of t) h

same_by_order : (s t : Signature) → signature_cmp s t ≡ Equal → signature_eq s t ≡ true
same_by_order s t h =
    let e = equal_words s t h in
    let first : (s.w0 == t.w0) ≡ true = eq-eqb s.w0 t.w0 (ap (λ (l : List ℕ). get_or l 0 0) e) in
    let second : (s.w1 == t.w1) ≡ true = eq-eqb s.w1 t.w1 (ap (λ (l : List ℕ). get_or l 1 0) e) in
    let third : (s.w2 == t.w2) ≡ true = eq-eqb s.w2 t.w2 (ap (λ (l : List ℕ). get_or l 2 0) e) in
    rw (first, second, third) refl

equal_by_words : (s t : Signature) → signature_eq s t ≡ true → signature_cmp s t ≡ Equal
equal_by_words s t h =
    let outer = and_parts (s.w0 == t.w0) _ h in
    let inner = and_parts (s.w1 == t.w1) (s.w2 == t.w2) outer.1 in
    let first = eqb-true s.w0 t.w0 outer.0 in
    let second = eqb-true s.w1 t.w1 inner.0 in
    let third = eqb-true s.w2 t.w2 inner.1 in
    let same : words_of s ≡ words_of t = λ i. first i ∷ second i ∷ third i ∷ [] in
    ap (slice_cmp nat_cmp (words_of s)) (sym same) ∙ tied_itself nat_list_cmp_total (words_of s)

-- signatures of which one is below the other
differ_below : (s t : Signature) → signature_cmp s t ≡ Less → signature_eq s t ≡ false
differ_below s t h =
    elim (cases_Bool (signature_eq s t)) [
      | inl same ↦ let e = sym h ∙ equal_by_words s t same in cc
      | inr differ ↦ differ
    ]

differ_above : (s t : Signature) → signature_cmp s t ≡ Greater → signature_eq s t ≡ false
differ_above s t h =
    elim (cases_Bool (signature_eq s t)) [
      | inl same ↦ let e = sym h ∙ equal_by_words s t same in cc
      | inr differ ↦ differ
    ]

-- ---- signatures that rise

rises_behind : (s : Signature) (sigs : List Signature) → rises (s ∷ sigs) ≡ true → rises sigs ≡ true
rises_behind s [] h = refl
rises_behind s (t ∷ sigs) h = (and_parts (is_lt (signature_cmp s t)) (rises (t ∷ sigs)) h).1

below_each : (s : Signature) (sigs : List Signature) (j : ℕ) → rises (s ∷ sigs) ≡ true → j < length sigs → signature_cmp s (get_or sigs j nothing) ≡ Less
below_each s [] j h within = absurd (omega arith)
below_each s (t ∷ sigs) zero h within = less (signature_cmp s t) (and_parts (is_lt (signature_cmp s t)) (rises (t ∷ sigs)) h).0
below_each s (t ∷ sigs) (suc j) h within =
    let parts = and_parts (is_lt (signature_cmp s t)) (rises (t ∷ sigs)) h in
    chain s t (get_or sigs j nothing) (less (signature_cmp s t) parts.0) (below_each t sigs j parts.1 (omega arith))

below_later : (sigs : List Signature) (i j : ℕ) → rises sigs ≡ true → i < j → j < length sigs → signature_cmp (get_or sigs i nothing) (get_or sigs j nothing) ≡ Less
below_later [] i j h before within = absurd (omega arith)
below_later (s ∷ sigs) i zero h before within = absurd (omega arith)
below_later (s ∷ sigs) zero (suc j) h before within = below_each s sigs j h (omega arith)
below_later (s ∷ sigs) (suc i) (suc j) h before within = below_later sigs i j (rises_behind s sigs h) (omega arith) (omega arith)

-- ---- the block beside a signature

beside_at : (sigs : List Signature) (blocks : List ℕ) (sig : Signature) (m : ℕ) → m < length sigs → m < length blocks → signature_eq (get_or sigs m nothing) sig ≡ true
    → ((j : ℕ) → j < m → signature_eq (get_or sigs j nothing) sig ≡ false) → block_beside sigs blocks sig ≡ Some (get_or blocks m 0)
beside_at [] blocks sig m within fits same others = absurd (omega arith)
beside_at (s ∷ sigs) [] sig m within fits same others = absurd (omega arith)
beside_at (s ∷ sigs) (b ∷ blocks) sig zero within fits same others = rw same refl
beside_at (s ∷ sigs) (b ∷ blocks) sig (suc m) within fits same others =
    let first : signature_eq s sig ≡ false = others 0 (omega arith) in
    rw first (beside_at sigs blocks sig m (omega arith) (omega arith) same (λ j lt. others (suc j) (omega arith)))

beside_none : (sigs : List Signature) (blocks : List ℕ) (sig : Signature) → ((j : ℕ) → j < length sigs → signature_eq (get_or sigs j nothing) sig ≡ false) → block_beside sigs blocks sig ≡ None
beside_none [] blocks sig others = refl
beside_none (s ∷ sigs) [] sig others = refl
beside_none (s ∷ sigs) (b ∷ blocks) sig others =
    let first : signature_eq s sig ≡ false = others 0 (omega arith) in
    rw first (beside_none sigs blocks sig (λ j lt. others (suc j) (omega arith)))

-- ---- the search

-- the signatures before a place are below one, and those from another place on are above it
pub record IsBetween (words : List ℕ) (first count : ℕ) (sig : Signature) (low high : ℕ) : Type 0 where
  pub below : (j : ℕ) → j < low → signature_cmp (signature_at words first j) sig ≡ Less
  pub above : (j : ℕ) → high ≤ j → j < count → signature_cmp (signature_at words first j) sig ≡ Greater

pub starts_between : (words : List ℕ) (first count : ℕ) (sig : Signature) → IsBetween words first count sig 0 count
starts_between words first count sig = record {
  below = λ j lt. absurd (omega arith);
  above = λ j le lt. absurd (omega arith);
}

module _ (words : List ℕ) (first count : ℕ) (sig : Signature) (rising : rises (signatures_at words first count) ≡ true) where
  abbrev at : ℕ → Signature
  at = signature_at words first

  sig_is : (i : ℕ) → i < count → get_or (signatures_at words first count) i nothing ≡ at i
  sig_is i lt = get_or-map-range_with_len at 0 count i i nothing lt (omega arith)

  many : length (signatures_at words first count) ≡ count
  many = length-map (range_with_len 0 count) at ∙ length-range_with_len 0 count

  far : (i j : ℕ) → i < j → j < count → signature_cmp (at i) (at j) ≡ Less
  far i j before within =
      let size = many in
      (λ t. signature_cmp (sym (sig_is i (omega arith)) t) (sym (sig_is j within) t))
      ∙ below_later (signatures_at words first count) i j rising before (omega arith)

  module _ (low high middle : ℕ) (between : IsBetween words first count sig low high) (within : middle < count) where
    pub goes_up : signature_cmp (at middle) sig ≡ Less → IsBetween words first count sig (middle + 1) high
    goes_up is = record {
      below = λ j lt. elim (cases_lt j middle) [
        | inl before ↦ chain (at j) (at middle) sig (far j middle before within) is
        | inr not_before ↦ let e : middle ≡ j = omega arith in subst (λ (k : ℕ). signature_cmp (at k) sig ≡ Less) e is
      ];
      above = between.above;
    }

    pub goes_down : signature_cmp (at middle) sig ≡ Greater → IsBetween words first count sig low middle
    goes_down is = record {
      below = between.below;
      above = λ j le lt. elim (cases_lt middle j) [
        | inl behind ↦ less_turned sig (at j) (chain sig (at middle) (at j) (greater_turned (at middle) sig is) (far middle j behind lt))
        | inr not_behind ↦ let e : middle ≡ j = omega arith in subst (λ (k : ℕ). signature_cmp (at k) sig ≡ Greater) e is
      ];
    }

  -- one that is equal
  pub found_beside : (blocks : List ℕ) (middle : ℕ) → length blocks ≡ count → middle < count → signature_cmp (at middle) sig ≡ Equal
      → Some (get_or blocks middle 0) ≡ block_beside (signatures_at words first count) blocks sig
  found_beside blocks middle size within is =
      let sigs = signatures_at words first count in
      let size' = many in
      sym (beside_at sigs blocks sig middle (omega arith) (omega arith)
      (ap (λ (s : Signature). signature_eq s sig) (sig_is middle within) ∙ same_by_order (at middle) sig is)
      (λ j lt.
      ap (λ (s : Signature). signature_eq s sig) (sig_is j (omega arith))
      ∙ differ_below (at j) sig (ap (slice_cmp nat_cmp (words_of (at j))) (sym (equal_words (at middle) sig is)) ∙ far j middle lt within)))

  -- none that is equal
  pub none_beside : (blocks : List ℕ) (low high : ℕ) → IsBetween words first count sig low high → high ≤ low → None ≡ block_beside (signatures_at words first count) blocks sig
  none_beside blocks low high between met =
      let size = many in
      sym (beside_none (signatures_at words first count) blocks sig
      (λ j lt.
      ap (λ (s : Signature). signature_eq s sig) (sig_is j (omega arith))
      ∙ elim (cases_lt j low) [
        | inl before ↦ differ_below (at j) sig (between.below j before)
        | inr behind ↦ differ_above (at j) sig (between.above j (omega arith) (omega arith))
      ]))

-- at most half of the places have a binary digit less
pub digit_less : (n m : ℕ) → 0 < n → m ≤ n / 2 → binary_digits m + 1 ≤ binary_digits n
digit_less n m some half =
    let e = digits_half n some in
    let most = digits_mono m (n / 2) half in
    omega arith
