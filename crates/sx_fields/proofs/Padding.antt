-- Whether the bits after the last field are zero, by the last word alone.
use Rattle.std.proofs.Common.{◌≡◌, ◌≢◌, ℕ, suc, ◌+◌, ◌*◌, ◌/◌, ◌%◌, ◌^◌, ◌<◌, ◌≤◌, true, List, length, get_or, drop, sym, ap, subst, ◌∙◌, arith, inl, inr, Fits, w64}
use Rattle.std.specs.Prelude.{◌==◌}
use Rattle.std.proofs.lemmas.Bool.{cases_lt, lt-ltb, le-ltb, eq-eqb, ne_eqb}
use Rattle.std.proofs.lemmas.List.{drop_all}
use Rattle.std.proofs.lemmas.List.Elements.{recursion_from_All, All-from_get_or}
use Rattle.std.proofs.lemmas.Nat.{pow_pos, div-add-mod', mod_below}
use Rattle.std.proofs.Math.Nat.{div-lt_iff_lt-mul, div-eq_of_lt}
use Rattle.sx_spec.specs.Fields.{words_for, words_number, is_zero_after}
use Rattle.sx_fields.proofs.WordNumbers.{AreWords, power_split, number_front, number_drop}

-- words are below 2 ^ 64 at each place
pub words_at : (words : List ℕ) → ((i : ℕ) → Fits w64 (get_or words i 0)) → AreWords words
words_at words small = recursion_from_All (λ w. w < 2 ^ 64) words (All-from_get_or (λ w. w < 2 ^ 64) words 0 (λ i within. (small i).fits))

module _ (words : List ℕ) (bits : ℕ) (small : AreWords words) where
  -- the number of the words is below 2 to their bits
  pub number_fits : (k : ℕ) → length words ≤ k → words_number words < 2 ^ (64 * k)
  number_fits k long =
      let high : words_number words / 2 ^ (64 * k) ≡ 0 = number_drop words k small ∙ ap words_number (drop_all k words long) in
      let low = mod_below (words_number words) (2 ^ (64 * k)) (pow_pos (64 * k)) in
      let split = div-add-mod' (words_number words) (2 ^ (64 * k)) in
      let none : words_number words / 2 ^ (64 * k) * 2 ^ (64 * k) ≡ 0 * 2 ^ (64 * k) = ap (λ m. m * 2 ^ (64 * k)) high in
      omega arith

  -- where the bits fill the words, none is left
  pub padding_none : length words ≡ words_for bits → bits % 64 ≡ 0 → is_zero_after bits words ≡ true
  padding_none size full =
      let k = bits / 64 in
      let e : 64 * k ≡ bits = omega arith in
      lt-ltb (words_number words) (2 ^ bits) (subst (λ n. words_number words < 2 ^ n) e (number_fits k (omega arith)))

  -- otherwise they are the high bits of the last word
  pub padding_last : length words ≡ words_for bits → bits % 64 ≢ 0 → (get_or words (bits / 64) 0 / 2 ^ (bits % 64) == 0) ≡ is_zero_after bits words
  padding_last size part =
      let k = bits / 64 in
      let s = bits % 64 in
      let w = get_or words k 0 in
      let x = words_number words in
      let rest : words_number (drop (suc k) words) ≡ 0 = ap words_number (drop_all (suc k) words (omega arith)) in
      let last : x / 2 ^ (64 * k) ≡ w = number_drop words k small ∙ number_front words k ∙ (let f : w + 2 ^ 64 * words_number (drop (suc k) words) ≡ w = omega arith in f) in
      let power : 2 ^ bits ≡ 2 ^ s * 2 ^ (64 * k) = power_split s (64 * k) bits (omega arith) in
      let parts : (x / 2 ^ (64 * k) < 2 ^ s → x < 2 ^ s * 2 ^ (64 * k)) = (div-lt_iff_lt-mul (pow_pos (64 * k))).0 in
      let parts' : (x < 2 ^ s * 2 ^ (64 * k) → x / 2 ^ (64 * k) < 2 ^ s) = (div-lt_iff_lt-mul (pow_pos (64 * k))).1 in
      elim (cases_lt w (2 ^ s)) [
        | inl lt ↦
            let below : x < 2 ^ bits = subst (λ m. x < m) (sym power) (parts (omega arith)) in
            eq-eqb (w / 2 ^ s) 0 (div-eq_of_lt lt) ∙ sym (lt-ltb x (2 ^ bits) below)
        | inr le ↦
            let above : 2 ^ bits ≤ x = elim (cases_lt x (2 ^ bits)) [
              | inl lt ↦ absurd (let h = parts' (subst (λ m. x < m) power lt) in omega arith)
              | inr le ↦ le
            ] in
            let some : w / 2 ^ s ≢ 0 = λ none.
            let low = mod_below w (2 ^ s) (pow_pos s) in
            let split = div-add-mod' w (2 ^ s) in
            let gone : w / 2 ^ s * 2 ^ s ≡ 0 * 2 ^ s = ap (λ m. m * 2 ^ s) none in
            omega arith in
            ne_eqb (w / 2 ^ s) 0 some ∙ sym (le-ltb x (2 ^ bits) above)
      ]
