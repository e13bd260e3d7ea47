-- How many ones a number has below a bit, and where one number k stands.
use Rattle.std.proofs.Common.{◌≡◌, ℕ, zero, suc, ◌+◌, ◌-◌, ◌*◌, ◌/◌, ◌%◌, ◌^◌, ◌<◌, ◌≤◌, cond, List, [], ◌∷◌, ◌++◌, All, length, get_or, drop, refl, sym, ap, ◌∙◌, arith, lit<, inl, inr, zero-add, add-zero}
use Rattle.std.specs.Prelude.{◌==◌, filter}
use Rattle.std.specs.Int.{bit_at}
use Rattle.std.specs.Int.Count.{ones}
use Rattle.std.specs.List.{range_with_len}
use Rattle.std.proofs.lemmas.Bool.{cases_eq, cases_lt, eq-eqb, ne_eqb}
use Rattle.std.proofs.lemmas.List.{length-append, get_or_at, get_or-drop}
use Rattle.std.proofs.lemmas.List.Elements.{filter-append, recursion_from_All, All-drop, All-get_or}
use Rattle.std.proofs.lemmas.Nat.{ones_cat, ones-le, mod_below, pow_pos, mod-pow-add}
use Rattle.std.proofs.Math.Nat.{pow-succ', pow-zero, mod-one, div-one, mod-eq_of_lt}
use Rattle.std.proofs.Math.Arith.{mod-mul}
use Rattle.std.proofs.lemmas.List.FromFn.{length-map-range_with_len, get_or-map-range_with_len}
use Rattle.sx_spec.specs.Fields.{ones_of}
use Rattle.sx_fields.proofs.WordNumbers.{AreWords}
use Rattle.sx_fields.proofs.WordFields.{number_inside}
use Rattle.sx_ranksel.specs.Directory.{rank_of, number_at, directory_of}

-- ---- ranges

range_split : (a n m : ℕ) → range_with_len a (n + m) ≡ range_with_len a n ++ range_with_len (a + n) m
range_split a zero m = let e : 0 + m ≡ m = zero-add m in let f : a ≡ a + 0 = omega arith in λ i. range_with_len (f i) (e i)
range_split a (suc n) m =
    let e : suc n + m ≡ suc (n + m) = omega arith in
    let f : a + 1 + n ≡ a + suc n = omega arith in
    ap (range_with_len a) e ∙ ap (λ xs. a ∷ xs) (range_split (a + 1) n m ∙ ap (λ b. range_with_len (a + 1) n ++ range_with_len b m) f)

module _ (x : ℕ) where
  abbrev ones_in_range : ℕ → ℕ → List ℕ
  ones_in_range a n = filter (λ k. bit_at x k == 1) (range_with_len a n)

  -- the ones below n, and those from n on
  pub ones_split : (n m : ℕ) → ones_of (n + m) x ≡ ones_of n x ++ ones_in_range n m
  ones_split n m =
      ap (filter (λ k. bit_at x k == 1)) (range_split 0 n m ∙ ap (λ a. range_with_len 0 n ++ range_with_len a m) (zero-add n))
      ∙ filter-append (λ k. bit_at x k == 1) (range_with_len 0 n) (range_with_len n m)

  -- below a higher bit there are no fewer
  pub rank_mono : (m n : ℕ) → m ≤ n → rank_of m x ≤ rank_of n x
  rank_mono m n le =
      let split = ones_split m (n - m) in
      let e : m + (n - m) ≡ n = omega arith in
      let whole : rank_of n x ≡ rank_of m x + length (ones_in_range m (n - m)) = ap (λ k. rank_of k x) (sym e) ∙ ap length split ∙ length-append (ones_of m x) (ones_in_range m (n - m)) in
      omega arith

  one_at : (n : ℕ) → length (ones_in_range n 1) ≡ bit_at x n
  one_at n =
      elim (cases_eq (bit_at x n) 1) [
        | inl one ↦ ap (λ t. length (cond t (n ∷ []) [])) (eq-eqb (bit_at x n) 1 one) ∙ sym one
        | inr other ↦
            let none : bit_at x n ≡ 0 = omega arith in
            ap (λ t. length (cond t (n ∷ []) [])) (ne_eqb (bit_at x n) 1 other) ∙ sym none
      ]

  pub rank_more : (n : ℕ) → rank_of (suc n) x ≡ bit_at x n + rank_of n x
  rank_more n =
      let e : suc n ≡ n + 1 = omega arith in
      let one = one_at n in
      let whole : rank_of (suc n) x ≡ rank_of n x + length (ones_in_range n 1) = ap (λ k. rank_of k x) e ∙ ap length (ones_split n 1) ∙ length-append (ones_of n x) (ones_in_range n 1) in
      omega arith

  -- the place of a one is that of the one number k, where k ones are below it
  pub select_is : (bits p k : ℕ) → p < bits → bit_at x p ≡ 1 → rank_of p x ≡ k → get_or (ones_of bits x) k 0 ≡ p
  select_is bits p k within one count =
      let m = bits - p - 1 in
      let e : p + suc m ≡ bits = omega arith in
      let whole : ones_of bits x ≡ ones_of p x ++ p ∷ ones_in_range (p + 1) m =
      ap (λ n. ones_of n x) (sym e) ∙ ones_split p (suc m)
      ∙ ap (λ t. ones_of p x ++ cond t (p ∷ ones_in_range (p + 1) m) (ones_in_range (p + 1) m)) (eq-eqb (bit_at x p) 1 one) in
      ap (λ xs. get_or xs k 0) whole ∙ get_or_at (ones_of p x) p (ones_in_range (p + 1) m) 0 k count

-- ---- by the count of ones

bit_ones : (b : ℕ) → b < 2 → ones b ≡ b
unfolding ones
bit_ones zero small = refl
bit_ones (suc zero) small = refl
bit_ones (suc (suc b)) small = absurd (omega arith)

pub no_ones : ones 0 ≡ 0
unfolding ones
no_ones = refl

pub rank_ones : (n x : ℕ) → rank_of n x ≡ ones (x % 2 ^ n)
rank_ones zero x =
    let e : x % 2 ^ 0 ≡ 0 = ap (λ m. x % m) (pow-zero 2) ∙ mod-one x in sym (ap ones e ∙ no_ones)
rank_ones (suc n) x =
    let split : x % 2 ^ suc n ≡ bit_at x n * 2 ^ n + x % 2 ^ n = ap (λ m. x % m) (pow-succ' 2 n) ∙ mod-mul x (lit< tt) (pow_pos n) in
    let cat = ones_cat n (bit_at x n) (x % 2 ^ n) (mod_below x (2 ^ n) (pow_pos n)) in
    let bit : ones (bit_at x n) ≡ bit_at x n = bit_ones (bit_at x n) (mod_below (x / 2 ^ n) 2 (lit< tt)) in
    let rest = rank_ones n x in
    let more = rank_more x n in
    let whole = ap ones split in
    omega arith

-- the ones of a number cut at two bits
pub ones_cut : (x j k : ℕ) → ones (x % 2 ^ (j + k)) ≡ ones (x / 2 ^ k % 2 ^ j) + ones (x % 2 ^ k)
ones_cut x j k = ap ones (mod-pow-add x j k) ∙ ones_cat k (x / 2 ^ k % 2 ^ j) (x % 2 ^ k) (mod_below x (2 ^ k) (pow_pos k))

-- ---- by words

module _ (bank : List ℕ) (first : ℕ) (small : All (λ w. w < 2 ^ 64) bank) where
  abbrev x : ℕ
  x = number_at first bank

  words_from : AreWords (drop first bank)
  words_from = recursion_from_All (λ w. w < 2 ^ 64) (drop first bank) (All-drop (λ w. w < 2 ^ 64) first bank small)

  -- so many bits of word k from a bit on
  pub word_bits : (k s width at : ℕ) → 64 * k + s ≡ at → s + width ≤ 64 → x / 2 ^ at % 2 ^ width ≡ get_or bank (first + k) 0 / 2 ^ s % 2 ^ width
  word_bits k s width at place fits =
      number_inside (drop first bank) width k s at words_from place fits
      ∙ ap (λ w. w / 2 ^ s % 2 ^ width) (get_or-drop first bank k 0)

  -- the ones below a bit of word k
  pub rank_part : (k s : ℕ) → s ≤ 64 → rank_of (64 * k + s) x ≡ rank_of (64 * k) x + ones (get_or bank (first + k) 0 % 2 ^ s)
  rank_part k s fits =
      let w = get_or bank (first + k) 0 in
      let turned : 64 * k + s ≡ s + 64 * k = omega arith in
      let whole : w / 2 ^ 0 ≡ w = ap (λ m. w / m) (pow-zero 2) ∙ div-one w in
      let bits : x / 2 ^ (64 * k) % 2 ^ s ≡ w % 2 ^ s = word_bits k 0 s (64 * k) (add-zero (64 * k)) (omega arith) ∙ ap (λ m. m % 2 ^ s) whole in
      let cut : ones (x % 2 ^ (s + 64 * k)) ≡ ones (w % 2 ^ s) + ones (x % 2 ^ (64 * k)) = ones_cut x s (64 * k) ∙ ap (λ m. ones m + ones (x % 2 ^ (64 * k))) bits in
      let below = rank_ones (64 * k) x in
      let all : rank_of (64 * k + s) x ≡ ones (x % 2 ^ (s + 64 * k)) = ap (λ n. rank_of n x) turned ∙ rank_ones (s + 64 * k) x in
      omega arith

  -- the ones below the word after word k
  pub rank_word : (k : ℕ) → first + k < length bank → rank_of (64 * (k + 1)) x ≡ rank_of (64 * k) x + ones (get_or bank (first + k) 0)
  rank_word k within =
      let w = get_or bank (first + k) 0 in
      let fits : w < 2 ^ 64 = All-get_or (λ w. w < 2 ^ 64) bank (first + k) 0 within small in
      let e : 64 * (k + 1) ≡ 64 * k + 64 = omega arith in
      ap (λ n. rank_of n x) e ∙ rank_part k 64 (omega arith) ∙ ap (λ m. rank_of (64 * k) x + ones m) (mod-eq_of_lt fits)

  -- a one in word k is the one number n, where n ones are below it
  pub word_one : (k q before n : ℕ) → q < 64 → before ≡ rank_of (64 * k) x → bit_at (get_or bank (first + k) 0) q ≡ 1 → ones (get_or bank (first + k) 0 % 2 ^ q) + before ≡ n → (bit_at x (64 * k + q) ≡ 1) × (rank_of (64 * k + q) x ≡ n)
  word_one k q before n inside below one count =
      let part = rank_part k q (omega arith) in
      let two : 2 ^ 1 ≡ 2 = refl in
      (word_bits k q 1 (64 * k + q) refl (omega arith) ∙ one, omega arith)

-- a one with n ones below it is where one number n stands
pub select_at : (x bits p n : ℕ) → bit_at x p ≡ 1 → rank_of p x ≡ n → n < rank_of bits x → get_or (ones_of bits x) n 0 ≡ p
select_at x bits p n one count some =
    let within : p < bits = elim (cases_lt p bits) [
      | inl lt ↦ lt
      | inr le ↦ absurd (let more = rank_mono x bits p le in omega arith)
    ] in
    select_is x bits p n within one count

-- no more ones than bits
pub rank_le : (n x : ℕ) → rank_of n x ≤ n
rank_le n x = let few = ones-le n (x % 2 ^ n) (mod_below x (2 ^ n) (pow_pos n)) in let e = rank_ones n x in omega arith

-- the ones below a bit are those before its block, those of the words between, and those in its own word
pub rank_whole : (x pos before between : ℕ) → before ≡ rank_of (512 * (pos / 512)) x → rank_of (64 * (pos / 64)) x ≡ rank_of (64 * (pos / 512 * 8)) x + between → before + between ≡ rank_of (64 * (pos / 64)) x
rank_whole x pos before between start words =
    let e : 64 * (pos / 512 * 8) ≡ 512 * (pos / 512) = omega arith in
    let same = ap (λ n. rank_of n x) e in
    omega arith

-- ---- the directory

pub length-directory : (bits x : ℕ) → length (directory_of bits x) ≡ bits / 512 + 1
length-directory bits x = length-map-range_with_len (λ block. rank_of (512 * block) x) 0 (bits / 512 + 1)

pub directory_at : (bits x block : ℕ) → block ≤ bits / 512 → get_or (directory_of bits x) block 0 ≡ rank_of (512 * block) x
directory_at bits x block within =
    get_or-map-range_with_len (λ block. rank_of (512 * block) x) 0 (bits / 512 + 1) block block 0 (omega arith) (zero-add block)
