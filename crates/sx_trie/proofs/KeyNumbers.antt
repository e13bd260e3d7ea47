-- Delimiters that are named by rising numbers of keys.
use Rattle.std.proofs.Common.{◌≡◌, ℕ, zero, suc, ◌+◌, ◌<◌, ◌≤◌, List, [], ◌∷◌, length, get_or, sym, ap, ap₂, ◌∙◌, arith}
use Rattle.std.specs.Prelude.{map, slice_index, slice_index_or}
use Rattle.std.proofs.lemmas.List.{length-map, get_or-map}
use Rattle.sx_spec_strings.specs.Bits.{AreKeyBits, begins_with, is_below, key_bits}
use Rattle.sx_bits.proofs.KeyListBits.{key_list_bits}
use Rattle.sx_bits.specs.KeyLists.{Keys, IsKeyList}
use Rattle.sx_trie.specs.Tries.{AreRising, delimiter_bits}
use Rattle.sx_trie.proofs.Delimiters.{key_pair, keys_from_pairs}

-- a delimiter is the key of its number
delimiter_at : (lines : List (List ℕ)) (numbers : List ℕ) (i : ℕ) → i < length numbers → slice_index numbers i < length lines
    → get_or (delimiter_bits lines numbers) i [] ≡ get_or (map key_bits lines) (slice_index numbers i) []
delimiter_at lines numbers i inside there =
    get_or-map (λ n. key_bits (slice_index_or lines n [])) numbers i 0 [] inside
    ∙ sym (get_or-map key_bits lines (slice_index numbers i) [] [] there)

pub delimiter_keys : (keys : Keys) → IsKeyList keys → (numbers : List ℕ) → AreRising keys.lines numbers → AreKeyBits (delimiter_bits keys.lines numbers)
delimiter_keys keys valid numbers rising =
    let lines = keys.lines in
    let ds = delimiter_bits lines numbers in
    let all = key_list_bits keys valid in
    let many = length-map numbers (λ n. key_bits (slice_index_or lines n [])) in
    let total = length-map lines key_bits in
    keys_from_pairs ds (λ i lt.
    let e : i + 1 ≡ suc i = omega arith in
    let here = rising.inside i (omega arith) in
    let there = rising.inside (suc i) (omega arith) in
    let less = ap (λ n. slice_index numbers n) e in
    let step = rising.rising i (omega arith) in
    let pair = key_pair (map key_bits lines) (slice_index numbers i) (slice_index numbers (suc i)) all (omega arith) (omega arith) in
    let d = delimiter_at lines numbers i (omega arith) here in
    let g = delimiter_at lines numbers (suc i) (omega arith) there in
    (ap₂ is_below d g ∙ pair.0, ap₂ begins_with g d ∙ pair.1))

-- rising numbers are no more than the numbers that they are of
number_above : (lines : List (List ℕ)) (numbers : List ℕ) → AreRising lines numbers → (i : ℕ) → i < length numbers → i ≤ slice_index numbers i
number_above lines numbers rising zero inside = omega arith
number_above lines numbers rising (suc i) inside =
    let e : i + 1 ≡ suc i = omega arith in
    let before = number_above lines numbers rising i (omega arith) in
    let less = ap (λ n. slice_index numbers n) e in
    let step = rising.rising i (omega arith) in
    omega arith

pub no_more : (lines : List (List ℕ)) (numbers : List ℕ) → AreRising lines numbers → length numbers ≤ length lines
no_more lines [] rising = omega arith
no_more lines (x ∷ numbers) rising =
    let last = length numbers in
    let above = number_above lines (x ∷ numbers) rising last (omega arith) in
    let inside = rising.inside last (omega arith) in
    omega arith
