-- The pairs of parts over keys, as signatures and numbers.
use Rattle.std.proofs.Common.{◌≡◌, ℕ, zero, suc, ◌+◌, ◌*◌, ◌/◌, ◌%◌, ◌<◌, ◌≤◌, List, [], ◌∷◌, ◌++◌, length, map, take, get_or, refl, sym, ap, subst, ◌∙◌, arith, Result, MatchResult}
use Rattle.std.specs.Prelude.{zip}
use Rattle.std.specs.List.{enumerate_from, range_with_len}
use Rattle.std.proofs.lemmas.List.{length-map, take_more, length-take-le}
use Rattle.std.proofs.lemmas.List.FromFn.{length-enumerate_from, length-range_with_len}
use Rattle.sx_spec_strings.specs.Bits.{Bits, key_bits}
use Rattle.sx_spec_kinds.specs.Lcp.{block_prefix, block_prefixes, prefix_lens}
use Rattle.sx_spec_kinds.specs.Pairs.{Pairs, pair, lengths_pairs, offsets_pairs, prefixes_pairs}
use Rattle.sx_spec.specs.declared.Plan.{Plan}
use Rattle.sx_spec.specs.declared.Signature.{Signature}
use Rattle.sx_spec.specs.Command.{Text}
use Rattle.sx_spec.specs.Parts.{least_part, least_width}
use Rattle.sx_spec.specs.Signature.{signature}
use Rattle.sx_spec.specs.StaticFunction.{Entry, part_entries}
use Rattle.sx_spec.proofs.Members.{few_prefixes}
use Rattle.sx_bits.specs.declared.pieces.Piece.{Piece}
use Rattle.sx_bits.specs.Pieces.{piece_string}
use Rattle.sx_static.specs.declared.FuncBuf.{FuncBuf}
use Rattle.sx_static.specs.Answer.{IsDone, entries_of}
use Rattle.sx_parts.specs.declared.parts.Stop.{Stop}
use Rattle.sx_parts.specs.Assembling.{key_signature, tries}
use Rattle.sx_parts.specs.Ranking.{ArePairs, length_numbers, offset_numbers}
use Rattle.sx_parts.specs.Sectioning.{IsPartDone, StopsPart, piece_signature}

-- ---- lists

map_map : {A B C : Type 0} (f : B → C) (g : A → B) (xs : List A) → map f (map g xs) ≡ map (λ x. f (g x)) xs
map_map f g [] = refl
map_map f g (x ∷ xs) = ap (λ l. f (g x) ∷ l) (map_map f g xs)

map_self : (xs : List ℕ) → map (λ x. x) xs ≡ xs
map_self [] = refl
map_self (x ∷ xs) = ap (λ l. x ∷ l) (map_self xs)

-- one number more
pub range_more : (a n : ℕ) → range_with_len a (n + 1) ≡ range_with_len a n ++ (a + n) ∷ []
range_more a zero = let e : a ≡ a + 0 = omega arith in ap (λ m. m ∷ []) e
range_more a (suc n) =
    let e : a + 1 + n ≡ a + suc n = omega arith in
    let f : suc n + 1 ≡ suc (n + 1) = omega arith in
    ap (range_with_len a) f ∙ ap (λ l. a ∷ l) (range_more (a + 1) n ∙ ap (λ m. range_with_len (a + 1) n ++ m ∷ []) e)

enumerate_more : (f : ℕ × ℕ → ℕ) (s : ℕ) (xs : List ℕ) (y : ℕ) → map f (enumerate_from s (xs ++ y ∷ [])) ≡ map f (enumerate_from s xs) ++ f (s + length xs, y) ∷ []
enumerate_more f s [] y = let e : s ≡ s + 0 = omega arith in ap (λ m. f (m, y) ∷ []) e
enumerate_more f s (x ∷ xs) y =
    let e : s + 1 + length xs ≡ s + suc (length xs) = omega arith in
    ap (λ l. f (s, x) ∷ l) (enumerate_more f (s + 1) xs y ∙ ap (λ m. map f (enumerate_from (s + 1) xs) ++ f (m, y) ∷ []) e)

pub lengths_more : (b : ℕ) (lens : List ℕ) (i : ℕ) → i < length lens → length_numbers b (take (i + 1) lens) ≡ length_numbers b (take i lens) ++ (i % b + b * get_or lens i 0) ∷ []
lengths_more b lens i within =
    let size = length-take-le i lens (omega arith) in
    let e : 0 + length (take i lens) ≡ i = omega arith in
    ap (length_numbers b) (take_more lens i 0 within)
    ∙ enumerate_more (λ (t : ℕ × ℕ). t.0 % b + b * t.1) 0 (take i lens) (get_or lens i 0)
    ∙ ap (λ (m : ℕ). length_numbers b (take i lens) ++ (m % b + b * get_or lens i 0) ∷ []) e

-- ---- pairs that number strings

-- strings with numbers by their places: the signatures, and the numbers
placed_entries : (s : Bits → Signature) (f : ℕ → ℕ) (n : ℕ) (xs : List Bits) → zip (map s xs) (map f (range_with_len n (length xs))) ≡ map (λ (p : Bits × ℕ). (s p.0, p.1)) (map (λ (t : ℕ × Bits). pair t.1 (f t.0)) (enumerate_from n xs))
placed_entries s f n [] = refl
placed_entries s f n (x ∷ xs) = ap (λ l. (s x, f n) ∷ l) (placed_entries s f (n + 1) xs)

placed_numbers : (f : ℕ → ℕ) (n : ℕ) (xs : List Bits) → map f (range_with_len n (length xs)) ≡ map (λ (p : Bits × ℕ). p.1) (map (λ (t : ℕ × Bits). pair t.1 (f t.0)) (enumerate_from n xs))
placed_numbers f n [] = refl
placed_numbers f n (x ∷ xs) = ap (λ l. f n ∷ l) (placed_numbers f (n + 1) xs)

lengths_placed : (b : ℕ) (g : ℕ → ℕ) (s n : ℕ) → map (λ (t : ℕ × ℕ). t.0 % b + b * t.1) (enumerate_from s (map g (range_with_len s n))) ≡ map (λ i. i % b + b * g i) (range_with_len s n)
lengths_placed b g s zero = refl
lengths_placed b g s (suc n) = ap (λ l. (s % b + b * g s) ∷ l) (lengths_placed b g (s + 1) n)

module _ (kept seed : ℕ) (lines : List Text) where
  abbrev keys : List Bits
  keys = map key_bits lines

  pub keys_signed : map (key_signature seed kept) lines ≡ map (signature seed kept) (map key_bits lines)
  keys_signed = sym (map_map (signature seed kept) key_bits lines)

  placed : (f : ℕ → ℕ) (xs : List Bits) (sigs : List Signature) (numbers : List ℕ) → sigs ≡ map (signature seed kept) xs → numbers ≡ map f (range_with_len 0 (length xs)) → ArePairs kept seed (map (λ (t : ℕ × Bits). pair t.1 (f t.0)) (enumerate_from 0 xs)) sigs numbers
  placed f xs sigs numbers signed numbered = record {
    entries = (λ i. zip (signed i) (numbered i)) ∙ placed_entries (signature seed kept) f 0 xs;
    numbers = numbered ∙ placed_numbers f 0 xs;
  }

  pub lengths_are : (b : ℕ) (sigs : List Signature) (numbers : List ℕ) → sigs ≡ map (key_signature seed kept) lines → numbers ≡ length_numbers b (prefix_lens b (map key_bits lines)) → ArePairs kept seed (lengths_pairs b (map key_bits lines)) sigs numbers
  unfolding lengths_pairs prefix_lens
  lengths_are b sigs numbers signed numbered =
      placed (λ i. i % b + b * length (block_prefix b keys (i / b))) keys sigs numbers (signed ∙ keys_signed)
      (numbered ∙ lengths_placed b (λ i. length (block_prefix b keys (i / b))) 0 (length keys))

  pub offsets_are : (b : ℕ) (sigs : List Signature) (numbers : List ℕ) → sigs ≡ map (key_signature seed kept) lines → numbers ≡ offset_numbers b (length lines) → ArePairs kept seed (offsets_pairs b (map key_bits lines)) sigs numbers
  unfolding offsets_pairs
  offsets_are b sigs numbers signed numbered =
      placed (λ i. i % b) keys sigs numbers (signed ∙ keys_signed) (numbered ∙ ap (offset_numbers b) (sym (length-map lines key_bits)))

  pub prefixes_are : (b : ℕ) (pieces : List Piece) (sigs : List Signature) (numbers : List ℕ) → map (piece_string lines) pieces ≡ block_prefixes b (map key_bits lines) → sigs ≡ map (piece_signature seed kept lines) pieces → numbers ≡ range_with_len 0 (length sigs)
      → ArePairs kept seed (prefixes_pairs b (map key_bits lines)) sigs numbers
  unfolding prefixes_pairs
  prefixes_are b pieces sigs numbers strings signed numbered =
      let all : sigs ≡ map (signature seed kept) (block_prefixes b keys) = signed ∙ sym (map_map (signature seed kept) (piece_string lines) pieces) ∙ ap (map (signature seed kept)) strings in
      let many : length sigs ≡ length (block_prefixes b keys) = ap (λ (l : List Signature). length l) all ∙ length-map (block_prefixes b keys) (signature seed kept) in
      placed (λ j. j) (block_prefixes b keys) sigs numbers all (numbered ∙ ap (range_with_len 0) many ∙ sym (map_self (range_with_len 0 (length (block_prefixes b keys)))))

  pub prefixes_few : (b : ℕ) (pieces : List Piece) (sigs : List Signature) → 0 < b → map (piece_string lines) pieces ≡ block_prefixes b (map key_bits lines) → sigs ≡ map (piece_signature seed kept lines) pieces → length sigs ≤ length lines
  unfolding prefixes_pairs
  prefixes_few b pieces sigs some strings signed =
      let few = few_prefixes b some keys in
      let count : length (prefixes_pairs b keys) ≡ length (enumerate_from 0 (block_prefixes b keys)) = length-map (enumerate_from 0 (block_prefixes b keys)) (λ (t : ℕ × Bits). pair t.1 t.0) in
      let all = length-enumerate_from 0 (block_prefixes b keys) in
      let many : length sigs ≡ length pieces = ap (λ (l : List Signature). length l) signed ∙ length-map pieces (piece_signature seed kept lines) in
      let same : length pieces ≡ length (block_prefixes b keys) = sym (length-map pieces (piece_string lines)) ∙ ap (λ (l : List Bits). length l) strings in
      let lines_count = length-map lines key_bits in
      omega arith

  pub lengths_count : (b : ℕ) (numbers : List ℕ) → numbers ≡ length_numbers b (prefix_lens b (map key_bits lines)) → length numbers ≡ length lines
  unfolding prefix_lens
  lengths_count b numbers numbered =
      let lens = prefix_lens b keys in
      ap (λ (l : List ℕ). length l) numbered
      ∙ length-map (enumerate_from 0 lens) (λ (t : ℕ × ℕ). t.0 % b + b * t.1)
      ∙ length-enumerate_from 0 lens
      ∙ length-map (range_with_len 0 (length keys)) (λ i. length (block_prefix b keys (i / b)))
      ∙ length-range_with_len 0 (length keys)
      ∙ length-map lines key_bits

-- ---- the function of the pairs

-- what was built of the signatures and numbers is the part of the pairs
pub least_of : (plan : Plan) (seed part : ℕ) (pairs : Pairs) (sigs : List Signature) (numbers : List ℕ) → ArePairs plan.sig_bits seed pairs sigs numbers → (r : Result FuncBuf Stop)
    → MatchResult r (IsDone plan.method tries (least_width numbers) (entries_of sigs numbers)) (StopsPart part plan.method (entries_of sigs numbers))
    → MatchResult r (IsPartDone plan seed (least_part pairs)) (StopsPart part plan.method (part_entries plan.sig_bits seed (least_part pairs)))
least_of plan seed part pairs sigs numbers are r is =
    let entries = part_entries plan.sig_bits seed (least_part pairs) in
    let wide = subst (λ (ns : List ℕ). MatchResult r (IsDone plan.method tries (least_width ns) (entries_of sigs numbers)) (StopsPart part plan.method (entries_of sigs numbers))) are.numbers is in
    subst (λ (es : List Entry). MatchResult r (IsDone plan.method tries (least_width (map (λ (p : Bits × ℕ). p.1) pairs)) es) (StopsPart part plan.method es)) are.entries wide
