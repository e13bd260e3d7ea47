-- The words of bytes, piece by piece.
use Rattle.std.proofs.Common.{◌≡◌, ℕ, suc, zero, ◌+◌, ◌*◌, ◌<◌, ◌≤◌, List, [], ◌∷◌, ◌++◌, length, map, take, drop, refl, sym, ap, ◌∙◌, arith, append_assoc, length-append, length-drop, append-nil}
use Rattle.std.specs.Int.{w64, from_le_bytes, div_ceil}
use Rattle.std.specs.List.{range_with_len}
use Rattle.std.proofs.lemmas.List.{drop-append-le, take-append-le}
use Rattle.std.proofs.lemmas.List.FromFn.{map-range_with_len_more}
use Rattle.std.proofs.Math.Seq.{drop-append-add}
use Rattle.sx_spec.specs.Layout.{bytes_words}

-- word i of bytes
abbrev pub word_at : List ℕ → ℕ → ℕ
word_at bytes i = from_le_bytes w64 (take 8 (drop (8 * i) bytes))

-- the first words of bytes
abbrev pub words_from : List ℕ → ℕ → List ℕ
words_from bytes n = map (word_at bytes) (range_with_len 0 n)

-- one word more
pub one_more : (bytes : List ℕ) (n : ℕ) → words_from bytes (n + 1) ≡ words_from bytes n ++ word_at bytes n ∷ []
one_more bytes n = map-range_with_len_more (word_at bytes) 0 n n (omega arith)

next_word : (bytes : List ℕ) (n : ℕ) → words_from bytes (suc n) ≡ words_from bytes n ++ word_at bytes n ∷ []
next_word bytes n =
    let e : suc n ≡ n + 1 = omega arith in
    ap (words_from bytes) e ∙ one_more bytes n

-- one word more behind others
pub pushed_word : (before words new bytes : List ℕ) (i word : ℕ) → words ≡ before ++ words_from bytes i → new ≡ words ++ word ∷ [] → word ≡ word_at bytes i → new ≡ before ++ words_from bytes (i + 1)
pushed_word before words new bytes i word so_far pushed is =
    pushed ∙ ap (λ (w : ℕ). words ++ w ∷ []) is ∙ ap (λ (ws : List ℕ). ws ++ word_at bytes i ∷ []) so_far
    ∙ append_assoc before (words_from bytes i) (word_at bytes i ∷ []) ∙ ap (λ (ws : List ℕ). before ++ ws) (sym (one_more bytes i))

module _ (front back : List ℕ) (k : ℕ) (whole : length front ≡ 8 * k) where
  -- the words of the front are those of all the bytes
  front_word : (i : ℕ) → i < k → word_at (front ++ back) i ≡ word_at front i
  front_word i lt =
      let behind : drop (8 * i) (front ++ back) ≡ drop (8 * i) front ++ back = drop-append-le (8 * i) front back (omega arith) in
      let room : 8 ≤ length (drop (8 * i) front) = omega (arith, length-drop (8 * i) front) in
      ap (from_le_bytes w64) (ap (take 8) behind ∙ take-append-le 8 (drop (8 * i) front) back room)

  -- and so are those of the back, behind them
  back_word : (i : ℕ) → word_at (front ++ back) (k + i) ≡ word_at back i
  back_word i =
      let at : 8 * (k + i) ≡ length front + 8 * i = omega arith in
      ap (from_le_bytes w64) (ap (take 8) (ap (λ (n : ℕ). drop n (front ++ back)) at ∙ drop-append-add front back (8 * i)))

  front_words : (n : ℕ) → n ≤ k → words_from (front ++ back) n ≡ words_from front n
  front_words zero le = refl
  front_words (suc n) le =
      next_word (front ++ back) n ∙ ap (λ (ws : List ℕ). ws ++ word_at (front ++ back) n ∷ []) (front_words n (omega arith))
      ∙ ap (λ (w : ℕ). words_from front n ++ w ∷ []) (front_word n (omega arith)) ∙ sym (next_word front n)

  all_words : (n : ℕ) → words_from (front ++ back) (k + n) ≡ words_from front k ++ words_from back n
  all_words zero =
      let e : k + 0 ≡ k = omega arith in
      ap (words_from (front ++ back)) e ∙ front_words k (omega arith) ∙ sym (append-nil (words_from front k))
  all_words (suc n) =
      let e : k + suc n ≡ suc (k + n) = omega arith in
      ap (words_from (front ++ back)) e
      ∙ next_word (front ++ back) (k + n) ∙ ap (λ (ws : List ℕ). ws ++ word_at (front ++ back) (k + n) ∷ []) (all_words n)
      ∙ ap (λ (w : ℕ). (words_from front k ++ words_from back n) ++ w ∷ []) (back_word n)
      ∙ append_assoc (words_from front k) (words_from back n) (word_at back n ∷ [])
      ∙ ap (λ (ws : List ℕ). words_from front k ++ ws) (sym (next_word back n))

  -- the words of bytes are those of their front and those of what follows, where the front has whole words
  pub words_append : bytes_words (front ++ back) ≡ bytes_words front ++ bytes_words back
  words_append =
      let count : div_ceil (length front) 8 ≡ k = omega arith in
      let size = length-append front back in
      let counts : div_ceil (length (front ++ back)) 8 ≡ k + div_ceil (length back) 8 = omega arith in
      ap (words_from (front ++ back)) counts ∙ all_words (div_ceil (length back) 8)
      ∙ ap (λ (n : ℕ). words_from front n ++ bytes_words back) (sym count)
