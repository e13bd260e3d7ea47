-- The codes of all keys, one after the other, and those by one delimiter or none.
use Rattle.std.proofs.Common.{◌≡◌, ℕ, zero, suc, ◌+◌, ◌<◌, ◌≤◌, Bool, true, false, Some, if◌then◌else◌, List, [], ◌∷◌, ◌++◌, length, get_or, take, map, refl, sym, ap, ap₂, ◌∙◌, arith, inl, inr}
use Rattle.std.specs.Prelude.{nat_lt, ◌==◌, slice_get, slice_index}
use Rattle.std.proofs.lemmas.Bool.{cases_lt, cases_eq, lt-ltb, le-ltb, ne_eqb}
use Rattle.std.proofs.lemmas.List.{length-map, get_or-map, take_all, take_more}
use Rattle.sx_spec_strings.specs.Bits.{Bits, AreKeyBits, is_below, key_bits}
use Rattle.sx_spec_strings.proofs.BitLaws.{below_irrefl, below_asym}
use Rattle.sx_spec_kinds.specs.Zfast.{code_of}
use Rattle.sx_bits.specs.KeyLists.{Keys, IsKeyList}
use Rattle.sx_bits.proofs.KeyListBits.{key_list_bits}
use Rattle.sx_trie.specs.Tries.{AreRising, delimiter_bits}
use Rattle.sx_trie.proofs.Delimiters.{key_pair}
use Rattle.sx_handles.specs.Ways.{key_at}

-- ---- keys by their numbers

pub key_is : (lines : List (List ℕ)) (i : ℕ) → i < length lines → get_or (map key_bits lines) i [] ≡ key_at lines i
key_is lines i inside = get_or-map key_bits lines i [] [] inside

module _ (ks : List Bits) (keys : AreKeyBits ks) where
  -- one key is below another just where its number is lower
  below_in : (i j : ℕ) → i < length ks → j < length ks → is_below (get_or ks i []) (get_or ks j []) ≡ nat_lt i j
  below_in i j i_in j_in =
      elim (cases_lt i j) [
        | inl less ↦ (key_pair ks i j keys less j_in).0 ∙ sym (lt-ltb i j less)
        | inr not ↦
            let over : is_below (get_or ks i []) (get_or ks j []) ≡ false =
            elim (cases_eq i j) [
              | inl same ↦ ap (λ n. is_below (get_or ks n []) (get_or ks j [])) same ∙ below_irrefl (get_or ks j [])
              | inr differ ↦ below_asym (get_or ks j []) (get_or ks i []) (key_pair ks j i keys (omega arith) i_in).0
            ] in
            over ∙ sym (le-ltb i j not)
      ]

pub below_is : (keys : Keys) → IsKeyList keys → (i j : ℕ) → i < length keys.lines → j < length keys.lines → is_below (key_at keys.lines i) (key_at keys.lines j) ≡ nat_lt i j
below_is keys valid i j i_in j_in =
    let size = length-map keys.lines key_bits in
    ap₂ is_below (sym (key_is keys.lines i i_in)) (sym (key_is keys.lines j j_in))
    ∙ below_in (map key_bits keys.lines) (key_list_bits keys valid) i j (omega arith) (omega arith)

-- ---- one code more

pub next_code : (f : Bits → ℕ) (lines : List (List ℕ)) (i : ℕ) (so_far more : List ℕ) (code : ℕ) → i < length lines → so_far ≡ take i (map f (map key_bits lines)) → code ≡ f (key_at lines i) → more ≡ so_far ++ code ∷ []
    → more ≡ take (i + 1) (map f (map key_bits lines))
next_code f lines i so_far more code inside same is pushed =
    let size = length-map lines key_bits in
    let size' = length-map (map key_bits lines) f in
    let value : get_or (map f (map key_bits lines)) i 0 ≡ f (key_at lines i) =
    get_or-map f (map key_bits lines) i [] 0 (omega arith) ∙ ap f (key_is lines i inside) in
    pushed ∙ ap₂ (λ cs c. cs ++ c ∷ []) same (is ∙ sym value) ∙ sym (take_more (map f (map key_bits lines)) i 0 (omega arith))

pub all_codes : (f : Bits → ℕ) (lines : List (List ℕ)) (i : ℕ) (codes : List ℕ) → length lines ≤ i → codes ≡ take i (map f (map key_bits lines)) → codes ≡ map f (map key_bits lines)
all_codes f lines i codes past same =
    let size = length-map lines key_bits in
    let size' = length-map (map key_bits lines) f in
    same ∙ take_all i (map f (map key_bits lines)) (omega arith)

-- ---- one delimiter or none

pub none_by : (numbers : List ℕ) (empty : Bool) → empty ≡ (length numbers == 0) → empty ≡ true → numbers ≡ []
none_by [] empty is h = refl
none_by (n ∷ ns) empty is h =
    let more : (length (n ∷ ns) == 0) ≡ false = ne_eqb (length (n ∷ ns)) 0 (λ e. omega arith) in
    let both : false ≡ true = sym more ∙ sym is ∙ h in
    cc

pub some_by : (numbers : List ℕ) (empty : Bool) → empty ≡ (length numbers == 0) → empty ≡ false → 0 < length numbers
some_by [] empty is h = let one : true ≡ false = sym is ∙ h in cc
some_by (n ∷ ns) empty is h = omega arith

pub code_by_none : (lines : List (List ℕ)) (numbers : List ℕ) (x : Bits) → numbers ≡ [] → 0 ≡ code_of (delimiter_bits lines numbers) x
unfolding code_of
code_by_none lines numbers x none = ap (λ ns. code_of (delimiter_bits lines ns) x) (sym none)

module _ (keys : Keys) (valid : IsKeyList keys) where
  code_by_first : (numbers : List ℕ) → AreRising keys.lines numbers → 0 < length numbers → length numbers < 2 → (key : ℕ) → key < length keys.lines
      → code_of (delimiter_bits keys.lines numbers) (key_at keys.lines key) ≡ (if nat_lt (slice_index numbers 0) key then 1 else 0)
  unfolding code_of
  code_by_first [] rising some few key inside = absurd (omega arith)
  code_by_first (n ∷ []) rising some few key inside =
      ap (λ b. if b then 1 else 0) (below_is keys valid n key (rising.inside 0 (omega arith)) inside)
  code_by_first (n ∷ m ∷ ns) rising some few key inside = absurd (omega arith)

  module _ (numbers : List ℕ) (rising : AreRising keys.lines numbers) (some : 0 < length numbers) (few : length numbers < 2) (key : ℕ) (inside : key < length keys.lines) where
    pub code_above : slice_index numbers 0 < key → 1 ≡ code_of (delimiter_bits keys.lines numbers) (key_at keys.lines key)
    code_above less =
        sym (code_by_first numbers rising some few key inside ∙ ap (λ b. if b then 1 else 0) (lt-ltb (slice_index numbers 0) key less))

    pub code_not_above : key ≤ slice_index numbers 0 → 0 ≡ code_of (delimiter_bits keys.lines numbers) (key_at keys.lines key)
    code_not_above not =
        sym (code_by_first numbers rising some few key inside ∙ ap (λ b. if b then 1 else 0) (le-ltb (slice_index numbers 0) key not))

-- a key as it is read
pub key_read : (lines : List (List ℕ)) (i : ℕ) (b : Bits) → i < length lines → slice_get (map key_bits lines) i ≡ Some b → b ≡ key_at lines i
key_read [] i b inside e = absurd (omega arith)
key_read (line ∷ lines) zero b inside e = cc
key_read (line ∷ lines) (suc i) b inside e = key_read lines i b (omega arith) e
