-- Ones set one after another, and low bits packed.
use Rattle.std.proofs.Common.{◌≡◌, ℕ, zero, suc, ◌+◌, ◌-◌, ◌*◌, ◌/◌, ◌%◌, ◌^◌, ◌<◌, ◌≤◌, List, [], ◌∷◌, ◌++◌, All, Option, Some, length, map, take, get_or, set, replicate, refl, sym, ap, subst, ◌∙◌, arith, append_assoc}
use Rattle.std.specs.Prelude.{bit_or, sum_by, unwrap_or}
use Rattle.std.specs.List.{enumerate_from, last_or}
use Rattle.std.proofs.lemmas.List.{set_at, take_more, length-take-le, map-append, length-set}
use Rattle.std.proofs.lemmas.List.Elements.{recursion_from_All, All-set}
use Rattle.std.proofs.lemmas.List.Sums.{sum_by-cons}
use Rattle.std.proofs.lemmas.Nat.{pow_pos, or_comm, or_shifted, pow_below, le-div}
use Rattle.std.proofs.Math.Nat.{pow-succ', div-lt_iff_lt-mul, mod-eq_of_lt, add-mul, div-mul-le_self}
use Rattle.std.proofs.Math.Pow.{pow_mono}
use Rattle.sx_spec_strings.proofs.NumberLaws.{div_mono}
use Rattle.sx_spec.specs.Fields.{words_number, words_for}
use Rattle.sx_fields.proofs.WordNumbers.{AreWords, power_split, number_front, number_drop, number_set}
use Rattle.sx_ef.specs.Parts.{places_number}

-- ---- low bits

-- the next of zeros is set
pub low_set : (xs : List ℕ) (y n i : ℕ) → length xs ≡ i → i < n → set (xs ++ replicate (n - i) 0) i y ≡ (xs ++ y ∷ []) ++ replicate (n - (i + 1)) 0
low_set xs y n i size within =
    let e : n - i ≡ suc (n - (i + 1)) = omega arith in
    ap (λ m. set (xs ++ replicate m 0) i y) e
    ∙ set_at xs 0 (replicate (n - (i + 1)) 0) y i size
    ∙ sym (append_assoc xs (y ∷ []) (replicate (n - (i + 1)) 0))

-- the numbers so far, and the next
pub map_more : (f : ℕ → ℕ) (xs : List ℕ) (i : ℕ) → i < length xs → map f (take (i + 1) xs) ≡ map f (take i xs) ++ f (get_or xs i 0) ∷ []
map_more f xs i within = ap (map f) (take_more xs i 0 within) ∙ map-append f (take i xs) (get_or xs i 0 ∷ [])

-- ---- ones

-- the sum over a list and one number more
pub places_more : (l n : ℕ) (xs : List ℕ) (y : ℕ) → sum_by (λ (p : ℕ × ℕ). 2 ^ (p.1 / 2 ^ l + p.0)) (enumerate_from n (xs ++ y ∷ [])) ≡ sum_by (λ (p : ℕ × ℕ). 2 ^ (p.1 / 2 ^ l + p.0)) (enumerate_from n xs) + 2 ^ (y / 2 ^ l + (n + length xs))
places_more l n [] y =
    let e : n ≡ n + 0 = omega arith in
    let f = sum_by-cons (λ (p : ℕ × ℕ). 2 ^ (p.1 / 2 ^ l + p.0)) (n, y) [] in
    let g : 2 ^ (y / 2 ^ l + n) + 0 ≡ 0 + 2 ^ (y / 2 ^ l + n) = omega arith in
    f ∙ g ∙ ap (λ m. 0 + 2 ^ (y / 2 ^ l + m)) e
places_more l n (x ∷ xs) y =
    let e : n + 1 + length xs ≡ n + suc (length xs) = omega arith in
    let power = λ (p : ℕ × ℕ). 2 ^ (p.1 / 2 ^ l + p.0) in
    let left = sum_by-cons power (n, x) (enumerate_from (n + 1) (xs ++ y ∷ [])) in
    let right = sum_by-cons power (n, x) (enumerate_from (n + 1) xs) in
    let rest = places_more l (n + 1) xs y in
    let same : 2 ^ (y / 2 ^ l + (n + 1 + length xs)) ≡ 2 ^ (y / 2 ^ l + (n + suc (length xs))) = ap (λ m. 2 ^ (y / 2 ^ l + m)) e in
    omega arith

-- words whose number is below the power of a place, with a one set there
module _ (words : List ℕ) (place : ℕ) (small : AreWords words) (below : words_number words < 2 ^ place) where
  abbrev k : ℕ
  k = place / 64

  abbrev s : ℕ
  s = place % 64

  abbrev w : ℕ
  w = get_or words k 0

  power_is : 2 ^ place ≡ 2 ^ s * 2 ^ (64 * k)
  power_is = power_split s (64 * k) place (omega arith)

  -- the word has nothing from the place on
  pub word_below : w < 2 ^ s
  word_below =
      let high : words_number words / 2 ^ (64 * k) < 2 ^ s = (div-lt_iff_lt-mul (pow_pos (64 * k))).1 (subst (λ m. words_number words < m) power_is below) in
      let front = number_drop words k small ∙ number_front words k in
      omega arith

  pub word_set : bit_or w (1 * 2 ^ s % 2 ^ 64) ≡ w + 2 ^ s
  word_set =
      let less : 2 ^ s < 2 ^ 64 = pow_below s 64 (omega arith) in
      let one : 1 * 2 ^ s ≡ 2 ^ s = omega arith in
      let bit : 1 * 2 ^ s % 2 ^ 64 ≡ 1 * 2 ^ s = mod-eq_of_lt (let f : 1 * 2 ^ s < 2 ^ 64 = omega arith in f) in
      ap (bit_or w) bit ∙ or_comm w (1 * 2 ^ s) ∙ or_shifted 1 s w word_below ∙ (let f : 1 * 2 ^ s + w ≡ w + 2 ^ s = omega arith in f)

  pub word_fits : w + 2 ^ s < 2 ^ 64
  word_fits =
      let low = word_below in
      let double : 2 ^ suc s ≡ 2 * 2 ^ s = pow-succ' 2 s in
      let most : 2 ^ suc s ≤ 2 ^ 64 = pow_mono (let h : suc s ≤ 64 = omega arith in h) in
      omega arith

  -- the number grows by the power
  pub place_set : k < length words → words_number (set words k (w + 2 ^ s)) ≡ words_number words + 2 ^ place
  place_set within =
      let whole = number_set words k (w + 2 ^ s) within in
      let parts : (w + 2 ^ s) * 2 ^ (64 * k) ≡ w * 2 ^ (64 * k) + 2 ^ s * 2 ^ (64 * k) = add-mul w (2 ^ s) (2 ^ (64 * k)) in
      let power = power_is in
      omega arith

-- one number more has its one set
pub record PlacesSet (list new : List ℕ) (width bits i : ℕ) : Type 0 where
  pub size : length new ≡ words_for bits
  pub small : All (λ w. w < 2 ^ 64) new
  pub number : words_number new ≡ places_number width (take (i + 1) list)
  pub below : i + 1 < length list → words_number new < 2 ^ (get_or list (i + 1) 0 / 2 ^ width + (i + 1))

pub places_step : (list words : List ℕ) (width bits i p w : ℕ) → p ≡ get_or list i 0 / 2 ^ width + i → w ≡ get_or words (p / 64) 0 → All (λ x. x < 2 ^ 64) words → length words ≡ words_for bits → i < length list → p < bits → words_number words ≡ places_number width (take i list) → words_number words < 2 ^ p → (i + 1 < length list → get_or list i 0 ≤ get_or list (i + 1) 0) → PlacesSet list (set words (p / 64) (bit_or w (1 * 2 ^ (p % 64) % 2 ^ 64))) width bits i
places_step list words width bits i p w place is small size within inside number below rising =
    let areas : AreWords words = recursion_from_All (λ x. x < 2 ^ 64) words small in
    let new = get_or words (p / 64) 0 + 2 ^ (p % 64) in
    let set_is : bit_or w (1 * 2 ^ (p % 64) % 2 ^ 64) ≡ new = ap (λ m. bit_or m (1 * 2 ^ (p % 64) % 2 ^ 64)) is ∙ word_set words p areas below in
    let fits = word_fits words p areas below in
    let grown = place_set words p areas below (omega arith) in
    let short : length (take i list) ≡ i = length-take-le i list (omega arith) in
    let more : places_number width (take (i + 1) list) ≡ places_number width (take i list) + 2 ^ p =
    ap (places_number width) (take_more list i 0 within)
    ∙ places_more width 0 (take i list) (get_or list i 0)
    ∙ (let e : get_or list i 0 / 2 ^ width + (0 + length (take i list)) ≡ p = omega arith in ap (λ k. places_number width (take i list) + 2 ^ k) e) in
    let double : 2 ^ suc p ≡ 2 * 2 ^ p = pow-succ' 2 p in
    subst (λ m. PlacesSet list (set words (p / 64) m) width bits i) (sym set_is) (record {
      size = length-set words (p / 64) new ∙ size;
      small = All-set (λ x. x < 2 ^ 64) words (p / 64) new fits small;
      number = omega arith;
      below = λ next.
          let up = div_mono (get_or list i 0) (get_or list (i + 1) 0) (2 ^ width) (pow_pos width) (rising next) in
          let most : 2 ^ suc p ≤ 2 ^ (get_or list (i + 1) 0 / 2 ^ width + (i + 1)) = pow_mono (let h : suc p ≤ get_or list (i + 1) 0 / 2 ^ width + (i + 1) = omega arith in h) in
          omega arith;
    })

-- ---- the last number

-- numbers that never fall, by place
pub rising_along : (list : List ℕ) → ((i : ℕ) → i + 1 < length list → get_or list i 0 ≤ get_or list (i + 1) 0) → (i d : ℕ) → i + d < length list → get_or list i 0 ≤ get_or list (i + d) 0
rising_along list rising i zero within = let e : i + 0 ≡ i = omega arith in let same = ap (λ n. get_or list n 0) e in omega arith
rising_along list rising i (suc d) within =
    let rest = rising_along list rising i d (omega arith) in
    let next = rising (i + d) (omega arith) in
    let e : i + d + 1 ≡ i + suc d = omega arith in
    let same = ap (λ n. get_or list n 0) e in
    omega arith

pub last_is : (o : Option ℕ) (xs : List ℕ) → 0 < length xs → unwrap_or (last_or o xs) 0 ≡ get_or xs (length xs - 1) 0
last_is o [] some = absurd (omega arith)
last_is o (x ∷ []) some = refl
last_is o (x ∷ y ∷ xs) some =
    let e : length (x ∷ y ∷ xs) - 1 ≡ suc (length (y ∷ xs) - 1) = omega arith in
    last_is (Some x) (y ∷ xs) (omega arith) ∙ sym (ap (λ n. get_or (x ∷ y ∷ xs) n 0) e)

-- no place is past the upper part
pub places_within : (list : List ℕ) (l : ℕ) → ((i : ℕ) → i + 1 < length list → get_or list i 0 ≤ get_or list (i + 1) 0) → (i : ℕ) → i < length list → get_or list i 0 / 2 ^ l + i < length list + get_or list (length list - 1) 0 / 2 ^ l
places_within list l rising i within =
    let d = length list - 1 - i in
    let e : i + d ≡ length list - 1 = omega arith in
    let along : get_or list i 0 ≤ get_or list (length list - 1) 0 = subst (λ n. get_or list i 0 ≤ get_or list n 0) e (rising_along list rising i d (omega arith)) in
    let part = div-mul-le_self (get_or list i 0) (2 ^ l) in
    let up : get_or list i 0 / 2 ^ l ≤ get_or list (length list - 1) 0 / 2 ^ l = le-div (get_or list i 0 / 2 ^ l) (get_or list (length list - 1) 0) (2 ^ l) (pow_pos l) (omega arith) in
    omega arith
