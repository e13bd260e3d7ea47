-- The blocks of keys, by the numbers of the delimiters.
use Rattle.std.proofs.Common.{◌≡◌, ℕ, ◌+◌, ◌-◌, ◌<◌, ◌≤◌, true, false, List, [], length, map, get_or, sym, ◌∙◌, ap, ap₂, arith, inl, inr}
use Rattle.std.specs.Prelude.{slice_index, slice_index_or}
use Rattle.std.proofs.lemmas.Bool.{cases_lt, cases_eq}
use Rattle.std.proofs.lemmas.List.{length-map, get_or-map}
use Rattle.sx_spec_strings.specs.Bits.{Bits, AreKeyBits, is_below, key_bits}
use Rattle.sx_spec_strings.proofs.BitLaws.{below_asym, below_irrefl}
use Rattle.sx_bits.proofs.KeyListBits.{key_list_bits}
use Rattle.sx_bits.specs.KeyLists.{Keys, IsKeyList}
use Rattle.sx_trie.specs.Tries.{AreRising, delimiter_bits}
use Rattle.sx_trie.proofs.Delimiters.{key_pair}
use Rattle.sx_trie.proofs.KeyNumbers.{delimiter_keys}
use Rattle.sx_handles.specs.Ways.{key_at, key_block}
use Rattle.sx_handles.proofs.Beside.{block_from, below_block, from_block}

-- a delimiter is the key of its number
pub delimiter_is : (lines : List (List ℕ)) (numbers : List ℕ) (i : ℕ) → i < length numbers → get_or (delimiter_bits lines numbers) i [] ≡ key_at lines (slice_index numbers i)
delimiter_is lines numbers i inside = get_or-map (λ n. key_bits (slice_index_or lines n [])) numbers i 0 [] inside

pub as_many : (lines : List (List ℕ)) (numbers : List ℕ) → length (delimiter_bits lines numbers) ≡ length numbers
as_many lines numbers = length-map numbers (λ n. key_bits (slice_index_or lines n []))

pub key_is : (lines : List (List ℕ)) (i : ℕ) → i < length lines → get_or (map key_bits lines) i [] ≡ key_at lines i
key_is lines i inside = get_or-map key_bits lines i [] [] inside

module _ (keys : Keys) (valid : IsKeyList keys) where
  abbrev lines : List (List ℕ)
  lines = keys.lines

  -- of two keys the one of the smaller number is below
  earlier_below : (i j : ℕ) → i < j → j < length lines → is_below (key_at lines i) (key_at lines j) ≡ true
  earlier_below i j less inside =
      let many = length-map lines key_bits in
      let pair = key_pair (map key_bits lines) i j (key_list_bits keys valid) less (omega arith) in
      ap₂ is_below (sym (key_is lines i (omega arith))) (sym (key_is lines j inside)) ∙ pair.0

  later_not_below : (i j : ℕ) → j ≤ i → i < length lines → is_below (key_at lines i) (key_at lines j) ≡ false
  later_not_below i j more inside =
      elim (cases_eq i j) [
        | inl same ↦ ap (λ n. is_below (key_at lines i) (key_at lines n)) (sym same) ∙ below_irrefl (key_at lines i)
        | inr differ ↦ below_asym (key_at lines j) (key_at lines i) (earlier_below j i (omega arith) inside)
      ]

  module _ (numbers : List ℕ) (rising : AreRising keys.lines numbers) (i : ℕ) (inside : i < length keys.lines) where
    abbrev ds : List Bits
    ds = delimiter_bits lines numbers

    own_keys : AreKeyBits ds
    own_keys = delimiter_keys keys valid numbers rising

    -- the block is known from the numbers beside it
    pub block_is : (b : ℕ) → b ≤ length numbers → (0 < b → slice_index numbers (b - 1) < i) → (b < length numbers → i ≤ slice_index numbers b) → b ≡ key_block keys.lines numbers i
    block_is b within low high =
        let many = as_many lines numbers in
        sym (block_from ds own_keys (key_at lines i) b (omega arith)
        (λ some.
        let less = low some in
        ap (λ (d : Bits). is_below d (key_at lines i)) (delimiter_is lines numbers (b - 1) (omega arith)) ∙ earlier_below (slice_index numbers (b - 1)) i less inside)
        (λ some.
        let more = high (omega arith) in
        let there = rising.inside b (omega arith) in
        ap (λ (d : Bits). is_below d (key_at lines i)) (delimiter_is lines numbers b (omega arith)) ∙ later_not_below (slice_index numbers b) i more there))

    -- the numbers before the block are smaller, and no later one is
    pub number_below : (j : ℕ) → j < length numbers → j < key_block keys.lines numbers i → slice_index numbers j < i
    number_below j less early =
        let many = as_many lines numbers in
        let own = ap (λ (d : Bits). is_below d (key_at lines i)) (sym (delimiter_is lines numbers j less)) ∙ below_block ds own_keys (key_at lines i) j (omega arith) early in
        let there = rising.inside j less in
        elim (cases_lt (slice_index numbers j) i) [
          | inl smaller ↦ smaller
          | inr more ↦ let none = later_not_below (slice_index numbers j) i more there in absurd cc
        ]

    pub number_from : (j : ℕ) → j < length numbers → key_block keys.lines numbers i ≤ j → i ≤ slice_index numbers j
    number_from j less late =
        let many = as_many lines numbers in
        let own = ap (λ (d : Bits). is_below d (key_at lines i)) (sym (delimiter_is lines numbers j less)) ∙ from_block ds own_keys (key_at lines i) j (omega arith) late in
        elim (cases_lt (slice_index numbers j) i) [
          | inl smaller ↦ let some = earlier_below (slice_index numbers j) i smaller inside in absurd cc
          | inr more ↦ more
        ]

-- ---- from a key to the next

-- the block at which the walk over the keys stands: that of the key before, or the first
pub record StandsBefore (lines : List (List ℕ)) (numbers : List ℕ) (block key : ℕ) : Type 0 where
  pub first : key ≡ 0 → block ≡ 0
  pub next : 0 < key → block ≡ key_block lines numbers (key - 1)

module _ (keys : Keys) (valid : IsKeyList keys) (numbers : List ℕ) (rising : AreRising keys.lines numbers) (key : ℕ) (inside : key < length keys.lines)
    (block : ℕ) (before : StandsBefore keys.lines numbers block key) where
  low : 0 < block → block ≤ length numbers → slice_index numbers (block - 1) < key
  low some within =
      elim (cases_eq key 0) [
        | inl none ↦ let first = before.first none in absurd (omega arith)
        | inr more ↦
            let is = before.next (omega arith) in
            let less = number_below keys valid numbers rising (key - 1) (omega arith) (block - 1) (omega arith) (omega arith) in
            omega arith
      ]

  high : block < length numbers → key ≤ slice_index numbers block + 1
  high some =
      elim (cases_eq key 0) [
        | inl none ↦ omega arith
        | inr more ↦
            let is = before.next (omega arith) in
            let less = number_from keys valid numbers rising (key - 1) (omega arith) block some (omega arith) in
            omega arith
      ]

  -- the block stays where the key isn't above the first delimiter that isn't below
  pub block_stays : block ≤ length numbers → (block < length numbers → key ≤ slice_index numbers block) → block ≡ key_block keys.lines numbers key
  block_stays within most = block_is keys valid numbers rising key inside block within (λ some. low some within) most

  -- and else it is one more
  pub block_goes_on : block < length numbers → slice_index numbers block < key → block + 1 ≡ key_block keys.lines numbers key
  block_goes_on some above =
      block_is keys valid numbers rising key inside (block + 1) (omega arith)
      (λ s. let e : block + 1 - 1 ≡ block = omega arith in let same = ap (λ n. slice_index numbers n) e in omega arith)
      (λ s. let next = rising.rising block (omega arith) in let last = high some in omega arith)
