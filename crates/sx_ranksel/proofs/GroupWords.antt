-- Where the ones of a group stand, and the next one after a one.
use Rattle.std.proofs.Common.{◌≡◌, ℕ, min, zero, suc, ◌+◌, ◌-◌, ◌*◌, ◌/◌, ◌%◌, ◌^◌, ◌<◌, ◌≤◌, List, [], ◌∷◌, ◌++◌, All, map, length, get_or, refl, sym, ap, subst, ◌∙◌, arith, inl, inr}
use Rattle.std.specs.Int.{bit_at, div_ceil, trailing_zeros, w64}
use Rattle.std.specs.Int.Count.{ones}
use Rattle.std.specs.List.{range_with_len}
use Rattle.std.proofs.lemmas.Bool.{cases_lt}
use Rattle.std.proofs.lemmas.List.{get_or_append_left, get_or-append-add, get_or_push, length-append}
use Rattle.std.proofs.lemmas.List.FromFn.{length-map-range_with_len, get_or-map-range_with_len}
use Rattle.std.proofs.lemmas.Nat.{shr-shr, div-add-mod'}
use Rattle.std.proofs.lemmas.Nat.Bits.{bit_at-trailing_zeros, bit_at_above}
use Rattle.sx_ranksel.specs.Directory.{rank_of, number_at}
use Rattle.sx_ranksel.specs.Groups.{place_of, last_in, IsShort, IsLong, IsGroup}
use Rattle.sx_ranksel.proofs.Ranks.{rank_more, rank_mono, rank_ones, rank_part, rank_word, ones_cut, select_is, word_bits}

-- ---- where ones stand

-- one number k stands below the end, with k ones below it
pub one_stands : (bits x k : ℕ) → k < rank_of bits x → (place_of bits x k < bits) × ((bit_at x (place_of bits x k) ≡ 1) × (rank_of (place_of bits x k) x ≡ k))
one_stands zero x k some = absurd (omega arith)
one_stands (suc n) x k some =
    let more = rank_more x n in
    elim (cases_lt k (rank_of n x)) [
      | inl lt ↦
          let before = one_stands n x k lt in
          let same : place_of (suc n) x k ≡ place_of n x k = select_is x (suc n) (place_of n x k) k (omega (arith, before.0)) before.1.0 before.1.1 in
          (omega (arith, before.0), (ap (bit_at x) same ∙ before.1.0, ap (λ p. rank_of p x) same ∙ before.1.1))
      | inr le ↦
          let bit : bit_at x n ≡ 1 = omega arith in
          let last : rank_of n x ≡ k = omega arith in
          let same : place_of (suc n) x k ≡ n = select_is x (suc n) n k (omega arith) bit last in
          (omega arith, (ap (bit_at x) same ∙ bit, ap (λ p. rank_of p x) same ∙ last))
    ]

-- a later one stands no lower
pub place_mono : (bits x j k : ℕ) → j ≤ k → k < rank_of bits x → place_of bits x j ≤ place_of bits x k
place_mono bits x j k order some =
    let p = place_of bits x j in
    let q = place_of bits x k in
    let a = one_stands bits x j (omega arith) in
    let b = one_stands bits x k some in
    elim (cases_lt q p) [
      | inl lt ↦ absurd (let more = rank_more x q in let less = rank_mono x (suc q) p lt in omega (arith, a.1.1, b.1.0, b.1.1))
      | inr le ↦ le
    ]

-- the ones below a bit that is above one number k are more than k
pub passed : (bits x k n : ℕ) → k < rank_of bits x → place_of bits x k < n → k < rank_of n x
passed bits x k n some above =
    let p = place_of bits x k in
    let stands = one_stands bits x k some in
    let more = rank_more x p in
    let less = rank_mono x (suc p) n above in
    omega (arith, stands.1.0, stands.1.1)

-- all words have all ones
pub all_above : (bits x k to : ℕ) → k < rank_of bits x → to ≡ div_ceil bits 64 → k < rank_of (64 * to) x
all_above bits x k to some is = let more = rank_mono x bits (64 * to) (omega arith) in omega arith

-- no more ones are below its word than below a one
pub below_le : (x p k below : ℕ) → rank_of p x ≡ k → below ≡ rank_of (64 * (p / 64)) x → below ≤ k
below_le x p k below count is = let less = rank_mono x (64 * (p / 64)) p (omega arith) in omega arith

-- thirty words from the first one of a short group on, or all that are left, have all its ones
pub short_above : (bits x group word k to : ℕ) → IsShort bits x group word → group ≡ k / 64 → k < rank_of bits x → to ≡ min (word / 64 + 30) (div_ceil bits 64) → k < rank_of (64 * to) x
short_above bits x group word k to short in_group some is =
    let last : k ≤ last_in bits x group = omega arith in
    let within : last_in bits x group < rank_of bits x = omega arith in
    let order = place_mono bits x k (last_in bits x group) last within in
    let stands = one_stands bits x k some in
    let first : word / 64 ≡ place_of bits x (64 * group) / 64 = ap (λ m. m / 64) short.place in
    let near = short.near in
    passed bits x k (64 * to) some (omega (arith, stands.0))

-- ---- the next one

-- no bit below is one
pub no_ones_below : (n x : ℕ) → ((i : ℕ) → i < n → bit_at x i ≡ 0) → rank_of n x ≡ 0
no_ones_below zero x none = refl
no_ones_below (suc n) x none =
    let more = rank_more x n in
    let before = no_ones_below n x (λ i lt. none i (omega arith)) in
    let last = none n (omega arith) in
    omega arith

-- the lowest one of a word
pub lowest_one : (w : ℕ) → 0 < w → w < 2 ^ 64 → (trailing_zeros w64 w < 64) × ((bit_at w (trailing_zeros w64 w) ≡ 1) × (ones (w % 2 ^ trailing_zeros w64 w) ≡ 0))
lowest_one w some small =
    let low = bit_at-trailing_zeros w64 w some small in
    (low.0, (low.1, sym (rank_ones (trailing_zeros w64 w) w) ∙ no_ones_below (trailing_zeros w64 w) w low.2))

module _ (bank : List ℕ) (first : ℕ) (small : All (λ w. w < 2 ^ 64) bank) where
  abbrev x : ℕ
  x = number_at first bank

  -- the lowest one of what a word has after a bit
  pub next_in_word : (place q rest w : ℕ) → w ≡ get_or bank (first + place / 64) 0 → w < 2 ^ 64 → rest ≡ w / 2 ^ (place % 64) / 2 → bit_at rest q ≡ 1 → ones (rest % 2 ^ q) ≡ 0 → (bit_at x (place + 1 + q) ≡ 1) × (rank_of (place + 1 + q) x ≡ rank_of (place + 1) x)
  next_in_word place q rest w word fits is one none =
      let k = place / 64 in
      let s = place % 64 in
      let shift : rest ≡ w / 2 ^ (s + 1) = is ∙ shr-shr w s 1 in
      let one' : bit_at w (s + 1 + q) ≡ 1 = sym (ap (λ m. m % 2) (shr-shr w (s + 1) q)) ∙ ap (λ m. bit_at m q) (sym shift) ∙ one in
      let inside : s + 1 + q < 64 = elim (cases_lt (s + 1 + q) 64) [
        | inl lt ↦ lt
        | inr le ↦ absurd (let no_bit = bit_at_above w 64 (s + 1 + q) fits le in omega (arith, one'))
      ] in
      let at : 64 * k + (s + 1 + q) ≡ place + 1 + q = omega arith in
      let at' : 64 * k + (s + 1) ≡ place + 1 = omega arith in
      let bit : bit_at x (place + 1 + q) ≡ bit_at (get_or bank (first + k) 0) (s + 1 + q) = word_bits bank first small k (s + 1 + q) 1 (place + 1 + q) at (omega (arith, inside)) in
      let far = rank_part bank first small k (s + 1 + q) (omega (arith, inside)) in
      let near = rank_part bank first small k (s + 1) (omega (arith, inside)) in
      let turned : s + 1 + q ≡ q + (s + 1) = omega arith in
      let cut : ones (w % 2 ^ (s + 1 + q)) ≡ ones (rest % 2 ^ q) + ones (w % 2 ^ (s + 1)) =
      ap (λ n. ones (w % 2 ^ n)) turned ∙ ones_cut w q (s + 1) ∙ ap (λ m. ones (m % 2 ^ q) + ones (w % 2 ^ (s + 1))) (sym shift) in
      let same = ap (λ m. ones (m % 2 ^ (s + 1 + q))) word in
      let same' = ap (λ m. ones (m % 2 ^ (s + 1))) word in
      let far' = ap (λ n. rank_of n x) at in
      let near' = ap (λ n. rank_of n x) at' in
      (bit ∙ ap (λ m. bit_at m (s + 1 + q)) (sym word) ∙ one', omega arith)

  -- a word that has none after a bit
  pub none_in_word : (place rest w : ℕ) → w ≡ get_or bank (first + place / 64) 0 → first + place / 64 < length bank → rest ≡ w / 2 ^ (place % 64) / 2 → rest ≡ 0 → rank_of (64 * (place / 64 + 1)) x ≡ rank_of (place + 1) x
  none_in_word place rest w word within is none =
      let k = place / 64 in
      let s = place % 64 in
      let shift : w / 2 ^ (s + 1) ≡ 0 = sym (is ∙ shr-shr w s 1) ∙ none in
      let split : w ≡ 0 * 2 ^ (s + 1) + w % 2 ^ (s + 1) = sym (div-add-mod' w (2 ^ (s + 1))) ∙ ap (λ m. m * 2 ^ (s + 1) + w % 2 ^ (s + 1)) shift in
      let low : w ≡ w % 2 ^ (s + 1) = omega (arith, split) in
      let count : ones w ≡ ones (w % 2 ^ (s + 1)) = ap ones low in
      let at' : 64 * k + (s + 1) ≡ place + 1 = omega arith in
      let whole = rank_word bank first small k within in
      let near = rank_part bank first small k (s + 1) (omega arith) in
      let same = ap ones word in
      let same' = ap (λ m. ones (m % 2 ^ (s + 1))) word in
      let near' = ap (λ n. rank_of n x) at' in
      omega arith

  -- the ones below the word of a bit, and those of the word below it
  pub word_below : (place n count w : ℕ) → rank_of place x ≡ n → w ≡ get_or bank (first + place / 64) 0 → count ≡ ones (w % 2 ^ (place % 64)) → n ≡ rank_of (64 * (place / 64)) x + count
  word_below place n count w below word is =
      let at : 64 * (place / 64) + place % 64 ≡ place = omega arith in
      let part = rank_part bank first small (place / 64) (place % 64) (omega arith) in
      let same = ap (λ m. ones (m % 2 ^ (place % 64))) word in
      let at' = ap (λ n. rank_of n x) at in
      omega arith

-- ---- the words of groups

-- the words of a group hold while places are only added
pub group_kept : (bits x group word : ℕ) (old new : List ℕ) → IsGroup bits x group word old → length old ≤ length new → ((i : ℕ) → i < length old → get_or new i 0 ≡ get_or old i 0) → IsGroup bits x group word new
group_kept bits x group word old new is grown kept = record {
  short = is.short;
  long = λ listed. let l = is.long listed in record {
    far = l.far;
    within = omega (arith, l.within);
    items = λ i le. kept (word - 2 ^ 63 + i) (omega (arith, l.within)) ∙ l.items i le;
  };
}

-- a list with the places of the ones of a group at its end
pub listed_group : (bits x group n : ℕ) (old new : List ℕ) → new ≡ old ++ map (place_of bits x) (range_with_len (64 * group) n) → n ≡ last_in bits x group + 1 - 64 * group → 64 * group < rank_of bits x → place_of bits x (64 * group) / 64 + 30 ≤ place_of bits x (last_in bits x group) / 64 → IsLong bits x group (length old) new
listed_group bits x group n old new is count some far =
    let more = map (place_of bits x) (range_with_len (64 * group) n) in
    let size = length-map-range_with_len (place_of bits x) (64 * group) n in
    let whole : length new ≡ length old + length more = ap length is ∙ length-append old more in
    record {
      far = far;
      within = omega arith;
      items = λ i le.
          ap (λ ps. get_or ps (length old + i) 0) is
          ∙ get_or-append-add old more i 0
          ∙ get_or-map-range_with_len (place_of bits x) (64 * group) n i (64 * group + i) 0 (omega arith) refl;
    }

-- a group whose last one is near the first
pub short_group : (bits x group start last end : ℕ) (places : List ℕ) → bits ≤ 2 ^ 34 → 64 * group < rank_of bits x → start ≡ place_of bits x (64 * group) → last ≡ last_in bits x group → end ≡ place_of bits x last → end / 64 < start / 64 + 30 → IsGroup bits x group start places
short_group bits x group start last end places few some first is end_is near =
    let stands = one_stands bits x (64 * group) some in
    let from = ap (λ m. m / 64) first in
    let to : end / 64 ≡ place_of bits x (last_in bits x group) / 64 = ap (λ m. m / 64) (end_is ∙ ap (place_of bits x) is) in
    record {
      short = λ _. record { place = first; near = omega arith };
      long = λ listed. absurd (omega (arith, stands.0));
    }

-- one whose ones are listed
pub long_group : (bits x group start last end listed n : ℕ) (old new : List ℕ) → 64 * group < rank_of bits x → start ≡ place_of bits x (64 * group) → last ≡ last_in bits x group → end ≡ place_of bits x last → start / 64 + 30 ≤ end / 64 → listed ≡ length old → n ≡ last + 1 - 64 * group → new ≡ old ++ map (place_of bits x) (range_with_len (64 * group) n) → IsGroup bits x group (2 ^ 63 + listed) new
long_group bits x group start last end listed n old new some first is end_is far size count items =
    let from = ap (λ m. m / 64) first in
    let to : end / 64 ≡ place_of bits x (last_in bits x group) / 64 = ap (λ m. m / 64) (end_is ∙ ap (place_of bits x) is) in
    let far' : place_of bits x (64 * group) / 64 + 30 ≤ place_of bits x (last_in bits x group) / 64 = omega arith in
    let count' : n ≡ last_in bits x group + 1 - 64 * group = count ∙ ap (λ m. m + 1 - 64 * group) is in
    let at : length old ≡ 2 ^ 63 + listed - 2 ^ 63 = omega arith in
    record {
      short = λ small. absurd (omega arith);
      long = λ _. subst (λ m. IsLong bits x group m new) at (listed_group bits x group n old new items count' some far');
    }

-- one group more
pub groups_more : (bits x group entry : ℕ) (words new_words old new : List ℕ) → length words ≡ group → new_words ≡ words ++ entry ∷ [] → ((j : ℕ) → j < group → IsGroup bits x j (get_or words j 0) old) → IsGroup bits x group entry new → length old ≤ length new → ((i : ℕ) → i < length old → get_or new i 0 ≡ get_or old i 0) → (j : ℕ) → j < group + 1 → IsGroup bits x j (get_or new_words j 0) new
groups_more bits x group entry words new_words old new size is before last grown kept j within =
    elim (cases_lt j group) [
      | inl lt ↦
          let same : get_or words j 0 ≡ get_or new_words j 0 = sym (ap (λ ws. get_or ws j 0) is ∙ get_or_append_left words (entry ∷ []) 0 j (omega arith)) in
          subst (λ m. IsGroup bits x j m new) same (group_kept bits x j (get_or words j 0) old new (before j lt) grown kept)
      | inr le ↦
          let at : group ≡ j = omega arith in
          let same : entry ≡ get_or new_words j 0 = sym (ap (λ ws. get_or ws j 0) is ∙ get_or_push words entry 0 j (size ∙ at)) in
          subst (λ m. IsGroup bits x j m new) same (subst (λ m. IsGroup bits x m entry new) at last)
    ]
