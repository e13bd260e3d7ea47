-- The pairs of two-step codes and of escaped lengths, as signatures and numbers.
use Rattle.std.proofs.Common.{◌≡◌, ℕ, ◌+◌, ◌-◌, ◌/◌, ◌^◌, ◌<◌, ◌≤◌, Bool, List, [], ◌∷◌, All, length, map, get_or, refl, sym, ap, subst, ◌∙◌, arith, inl, inr}
use Rattle.std.specs.Prelude.{filter, zip}
use Rattle.std.specs.List.{AllByRecursion, enumerate_from, range_with_len, slice_index, slice_index_or}
use Rattle.std.proofs.lemmas.Bool.{cases_Bool}
use Rattle.std.proofs.lemmas.List.{get_or-map, length-map, length-take}
use Rattle.std.proofs.lemmas.List.Elements.{All-from_recursion}
use Rattle.std.proofs.lemmas.List.FromFn.{length-enumerate_from, length-range_with_len}
use Rattle.std.proofs.Math.Pow.{pow_pos}
use Rattle.sx_spec_strings.specs.Bits.{Bits, key_bits}
use Rattle.sx_spec_strings.specs.Ordered.{in_order, put}
use Rattle.sx_spec_kinds.specs.Lcp.{block_prefix, prefix_lens}
use Rattle.sx_spec_kinds.specs.Pairs.{pair, escaped_pairs, two_step_pairs}
use Rattle.sx_spec_kinds.specs.TwoStep.{TwoStep, bits_of, code_of, comes_before, is_escaped, table_of, two_step_of, width_of}
use Rattle.sx_spec_kinds.proofs.TwoStepLaws.{code_leads_back, length-table_of}
use Rattle.sx_spec.specs.declared.Signature.{Signature}
use Rattle.sx_spec.specs.Command.{Text}
use Rattle.sx_spec.specs.Parts.{two_step_part}
use Rattle.sx_spec.specs.Signature.{signature}
use Rattle.sx_spec.specs.StaticFunction.{part_entries}
use Rattle.sx_spec.proofs.Members.{length_filter_le}
use Rattle.sx_spec.proofs.Widths.{table_fits_width}
use Rattle.sx_static.specs.Answer.{entries_of}
use Rattle.sx_parts.specs.Assembling.{key_signature}
use Rattle.sx_parts.specs.Ranking.{ArePairs, no_signature, signature_at}
use Rattle.sx_parts.proofs.KeyPairs.{keys_signed}

-- ---- how many lengths and codes there are

pub lens_count : (b : ℕ) (keys : List Bits) → length (prefix_lens b keys) ≡ length keys
unfolding prefix_lens
lens_count b keys = length-map (range_with_len 0 (length keys)) (λ i. length (block_prefix b keys (i / b))) ∙ length-range_with_len 0 (length keys)

pub codes_count : (values : List ℕ) → length (two_step_of values).codes ≡ length values
unfolding two_step_of
codes_count values = length-map values (code_of (table_of values (bits_of values)) (bits_of values))

-- ---- codes fit

code_fits : (values : List ℕ) (bits v : ℕ) → code_of (table_of values bits) bits v < 2 ^ bits
unfolding code_of
code_fits values bits v =
    let size = length-table_of values bits in
    let some : 0 < 2 ^ bits = pow_pos bits in
    elim (cases_Bool (is_escaped (table_of values bits) v)) [
      | inl escaped ↦ rw escaped (omega arith)
      | inr own ↦ let back = (code_leads_back (table_of values bits) bits v own).0 in omega arith
    ]

all_codes : (values list : List ℕ) (bits : ℕ) → AllByRecursion (λ c. c < 2 ^ bits) (map (code_of (table_of values bits) bits) list)
all_codes values [] bits = tt
all_codes values (v ∷ list) bits = (code_fits values bits v, all_codes values list bits)

pub codes_fit : (values : List ℕ) → AllByRecursion (λ c. c < 2 ^ (two_step_of values).bits) (two_step_of values).codes
unfolding two_step_of
codes_fit values = all_codes values values (bits_of values)

-- ---- escaped places

places_within : (p : ℕ × ℕ → Bool) (n m : ℕ) (xs : List ℕ) → n + length xs ≡ m → AllByRecursion (λ i. i < m) (map (λ (t : ℕ × ℕ). t.0) (filter p (enumerate_from n xs)))
places_within p n m [] size = tt
places_within p n m (x ∷ xs) size =
    let rest = places_within p (n + 1) m xs (omega arith) in
    let here : n < m = omega arith in
    elim (cases_Bool (p (n, x))) [
      | inl passes ↦ rw passes (here, rest)
      | inr fails ↦ rw fails rest
    ]

pub escaped_within : (values : List ℕ) → AllByRecursion (λ i. i < length values) (two_step_of values).escaped
unfolding two_step_of
escaped_within values = places_within (λ (t : ℕ × ℕ). is_escaped (table_of values (bits_of values)) t.1) 0 (length values) values (omega arith)

chosen_entries : (s : Bits → Signature) (keys : List Bits) (lens places : List ℕ) → AllByRecursion (λ i. i < length keys) places
    → zip (map (signature_at (map s keys)) places) (map (λ i. slice_index lens i) places) ≡ map (λ (p : Bits × ℕ). (s p.0, p.1)) (map (λ i. pair (slice_index_or keys i []) (slice_index lens i)) places)
chosen_entries s keys lens [] within = refl
chosen_entries s keys lens (i ∷ places) within =
    let here : signature_at (map s keys) i ≡ s (get_or keys i []) = get_or-map s keys i [] no_signature within.0 in
    let rest = chosen_entries s keys lens places within.1 in
    λ j. (here j, slice_index lens i) ∷ rest j

chosen_numbers : (keys : List Bits) (lens places : List ℕ) → map (λ i. slice_index lens i) places ≡ map (λ (p : Bits × ℕ). p.1) (map (λ i. pair (slice_index_or keys i []) (slice_index lens i)) places)
chosen_numbers keys lens [] = refl
chosen_numbers keys lens (i ∷ places) = ap (λ l. slice_index lens i ∷ l) (chosen_numbers keys lens places)

coded_entries : (s : Bits → Signature) (keys : List Bits) (codes : List ℕ) → zip (map s keys) codes ≡ map (λ (p : Bits × ℕ). (s p.0, p.1)) (map (λ (t : Bits × ℕ). pair t.0 t.1) (zip keys codes))
coded_entries s [] codes = refl
coded_entries s (k ∷ keys) [] = refl
coded_entries s (k ∷ keys) (c ∷ codes) = ap (λ l. (s k, c) ∷ l) (coded_entries s keys codes)

module _ (kept seed : ℕ) (lines : List Text) (b : ℕ) where
  abbrev keys : List Bits
  keys = map key_bits lines

  pub escaped_are : (sigs : List Signature) (lens places : List ℕ) → sigs ≡ map (key_signature seed kept) lines → lens ≡ prefix_lens b (map key_bits lines) → places ≡ (two_step_of (prefix_lens b (map key_bits lines))).escaped
      → ArePairs kept seed (escaped_pairs b (map key_bits lines)) (map (signature_at sigs) places) (map (λ i. slice_index lens i) places)
  unfolding escaped_pairs
  escaped_are sigs lens places signed lengths escaped =
      let all = prefix_lens b keys in
      let count = lens_count b keys in
      let within : AllByRecursion (λ i. i < length keys) (two_step_of all).escaped = subst (λ (n : ℕ). AllByRecursion (λ i. i < n) (two_step_of all).escaped) count (escaped_within all) in
      let s = signature seed kept in
      record {
        entries = (λ j. zip (map (signature_at ((signed ∙ keys_signed kept seed lines) j)) (escaped j)) (map (λ i. slice_index (lengths j) i) (escaped j))) ∙ chosen_entries s keys all (two_step_of all).escaped within;
        numbers = (λ j. map (λ i. slice_index (lengths j) i) (escaped j)) ∙ chosen_numbers keys all (two_step_of all).escaped;
      }

  pub codes_are : (sigs : List Signature) (codes : List ℕ) → sigs ≡ map (key_signature seed kept) lines → codes ≡ (two_step_of (prefix_lens b (map key_bits lines))).codes → entries_of sigs codes ≡ part_entries kept seed (two_step_part b (map key_bits lines))
  unfolding two_step_pairs
  codes_are sigs codes signed coded =
      (λ j. zip ((signed ∙ keys_signed kept seed lines) j) (coded j)) ∙ coded_entries (signature seed kept) keys (two_step_of (prefix_lens b keys)).codes

-- ---- the table

put_length : (before : ℕ → ℕ → Bool) (x : ℕ) (xs : List ℕ) → length (put before x xs) ≤ length xs + 1
put_length before x [] = omega arith
put_length before x (y ∷ xs) =
    let rest = put_length before x xs in
    elim (cases_Bool (before x y)) [
      | inl first ↦ rw first (omega arith)
      | inr later ↦ elim (cases_Bool (before y x)) [
        | inl after ↦ rw (later, after) (omega arith)
        | inr same ↦ rw (later, same) (omega arith)
      ]
    ]

order_length : (before : ℕ → ℕ → Bool) (xs : List ℕ) → length (in_order before xs) ≤ length xs
order_length before [] = omega arith
order_length before (x ∷ xs) =
    let rest = order_length before xs in
    let here = put_length before x (in_order before xs) in
    omega arith

-- the table has no more lengths than there are
pub table_count : (values : List ℕ) → length (two_step_of values).table ≤ length values
unfolding two_step_of table_of
table_count values =
    let all = order_length (comes_before values) values in
    let part = length-take (2 ^ bits_of values - 1) (in_order (comes_before values) values) in
    omega arith

pub escaped_count : (values : List ℕ) → length (two_step_of values).escaped ≤ length values
unfolding two_step_of
escaped_count values =
    let kept = filter (λ (t : ℕ × ℕ). is_escaped (table_of values (bits_of values)) t.1) (enumerate_from 0 values) in
    let e = length-map kept (λ (t : ℕ × ℕ). t.0) in
    let f = length_filter_le (λ (t : ℕ × ℕ). is_escaped (table_of values (bits_of values)) t.1) (enumerate_from 0 values) in
    let g = length-enumerate_from 0 values in
    omega arith

-- ---- codes as they are built

module _ (values : List ℕ) (t : TwoStep) (is : t ≡ two_step_of values) where
  pub built_codes_fit : All (λ c. c < 2 ^ t.bits) t.codes
  built_codes_fit = All-from_recursion (λ c. c < 2 ^ t.bits) t.codes (subst (λ (u : TwoStep). AllByRecursion (λ c. c < 2 ^ u.bits) u.codes) (sym is) (codes_fit values))

  pub built_codes_count : length t.codes ≡ length values
  built_codes_count = ap (λ (u : TwoStep). length u.codes) is ∙ codes_count values

  pub built_escaped_within : All (λ i. i < length values) t.escaped
  built_escaped_within = All-from_recursion (λ i. i < length values) t.escaped (subst (λ (u : TwoStep). AllByRecursion (λ i. i < length values) u.escaped) (sym is) (escaped_within values))

  pub built_escaped_count : length t.escaped ≤ length values
  built_escaped_count = let e = ap (λ (u : TwoStep). length u.escaped) is in let f = escaped_count values in omega arith

  pub built_table_fits : All (λ v. v < 2 ^ width_of values) t.table
  built_table_fits = All-from_recursion (λ v. v < 2 ^ width_of values) t.table (subst (λ (u : TwoStep). AllByRecursion (λ v. v < 2 ^ width_of values) u.table) (sym is) (table_fits_width values))

  pub built_table_count : length t.table ≤ length values
  built_table_count = let e = ap (λ (u : TwoStep). length u.table) is in let f = table_count values in omega arith
