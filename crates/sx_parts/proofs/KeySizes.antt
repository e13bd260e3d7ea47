-- How long the strings of keys are, and how wide the lengths of prefixes.
use Rattle.std.proofs.Common.{◌≡◌, ℕ, suc, ◌+◌, ◌*◌, ◌^◌, ◌≤◌, List, [], ◌∷◌, ◌++◌, length, map, Some, slice_get, sym, ap, arith, inl, inr}
use Rattle.std.proofs.lemmas.List.{length-append, length-map}
use Rattle.std.proofs.Math.Pow.{pow_pos, pow_mono}
use Rattle.sx_spec_strings.specs.Bits.{Bits, key_bits}
use Rattle.sx_spec_strings.specs.Ordered.{IsIn}
use Rattle.sx_spec_kinds.specs.Blocks.{block_size}
use Rattle.sx_spec_kinds.specs.Lcp.{prefix_lens}
use Rattle.sx_spec_kinds.specs.TwoStep.{two_step_of, width_of}
use Rattle.sx_spec.proofs.Bounds.{AreShort, narrow_codes, narrow_lens}
use Rattle.sx_spec.proofs.KeyFiles.{faultless_lines_are_keys}
use Rattle.sx_spec.proofs.Members.{from_map}
use Rattle.sx_spec.proofs.Signatures.{length-bytes_bits}
use Rattle.sx_bits.specs.KeyLists.{IsKeyList, Keys}
use Rattle.sx_parts.proofs.BuiltDumps.{few_lines}

in_index : {A : Type 0} (xs : List A) (x : A) → IsIn xs x → (i : ℕ) × (slice_get xs i ≡ Some x)
in_index [] x i = elim i [ ]
in_index (y ∷ xs) x (inl e) = (0, ap Some (sym e))
in_index (y ∷ xs) x (inr i) = let (j, at) = in_index xs x i in (suc j, at)

length-key_bits : (line : List ℕ) → length (key_bits line) ≡ 8 * (length line + 1)
unfolding key_bits
length-key_bits line = let e = length-bytes_bits (line ++ 0 ∷ []) in let f = length-append line (0 ∷ []) in omega arith

-- keys have at most 2 ^ 16 bits
pub keys_short : (list : Keys) → IsKeyList list → AreShort (2 ^ 16) (map key_bits list.lines)
keys_short list are x i =
    let file = faultless_lines_are_keys list.limits list.lines are.faultless in
    let limit = are.limits.line in
    let (line, j, e) = from_map key_bits list.lines x i in
    let (k, at) = in_index list.lines line j in
    let less = file.short k line at in
    let bits = length-key_bits line in
    let same : length x ≡ length (key_bits line) = ap (λ (s : Bits). length s) e in
    omega arith

module _ (list : Keys) (are : IsKeyList list) (log : ℕ) (low : log ≤ 12) where
  -- lengths have at most 32 bits
  pub lens_narrow : width_of (prefix_lens (block_size log) (map key_bits list.lines)) ≤ 32
  lens_narrow =
      let few = few_lines list.limits list.lines are.limits are.faultless in
      let count = length-map list.lines key_bits in
      narrow_lens (block_size log) (pow_pos log) (map key_bits list.lines) (2 ^ 16) (keys_short list are) (pow_mono low) (omega arith) (omega arith)

  -- and so have their codes
  pub codes_narrow : (two_step_of (prefix_lens (block_size log) (map key_bits list.lines))).bits ≤ 32
  codes_narrow =
      let few = few_lines list.limits list.lines are.limits are.faultless in
      let count = length-map list.lines key_bits in
      narrow_codes (block_size log) (pow_pos log) (map key_bits list.lines) (2 ^ 16) (keys_short list are) (pow_mono low) (omega arith) (omega arith)
