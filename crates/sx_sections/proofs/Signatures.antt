-- The checks of a corrections section, by the words where it begins.
use Rattle.std.proofs.Common.{◌≡◌, ℕ, ◌+◌, ◌-◌, ◌*◌, ◌<◌, ◌≤◌, ◌^◌, Bool, true, false, List, [], ◌∷◌, length, map, drop, get_or, Some, None, refl, sym, ap, ◌∙◌, arith, get_or-drop}
use Rattle.std.specs.Prelude.{nat_le, slice_index, if◌then◌else◌}
use Rattle.std.specs.List.{range_with_len}
use Rattle.std.proofs.lemmas.Bool.{le-leb}
use Rattle.std.proofs.lemmas.List.{length-drop}
use Rattle.sx_spec_strings.specs.First.{first_failing}
use Rattle.sx_spec.specs.Layout.{correction_at, correction_list, corrections_checks, corrections_of, corrections_section}
use Rattle.sx_sections.specs.declared.place.Place.TheVariants.{Corrections}
use Rattle.sx_sig.specs.SignatureWords.{rises, signature_at, signatures_at}
use Rattle.sx_sections.specs.Places.{IsFound}

module _ (words : List ℕ) (at most : ℕ) where
  abbrev rest : List ℕ
  rest = drop at words

  abbrev count : ℕ
  count = get_or words at 0

  word_is : (k n : ℕ) → at + k ≡ n → slice_index rest k ≡ slice_index words n
  word_is k n e = get_or-drop at words k 0 ∙ ap (slice_index words) e

  count_is : slice_index rest 0 ≡ count
  count_is = word_is 0 at (omega arith)

  signature_is : (k : ℕ) → correction_at rest k ≡ signature_at words (at + 1) k
  signature_is k = λ i. record {
    w0 = word_is (3 * k + 1) (at + 1 + 3 * k) (omega arith) i;
    w1 = word_is (3 * k + 2) (at + 1 + 3 * k + 1) (omega arith) i;
    w2 = word_is (3 * k + 3) (at + 1 + 3 * k + 2) (omega arith) i;
  }

  list_is : correction_list rest ≡ signatures_at words (at + 1) count
  list_is = λ i. map (λ k. signature_is k i) (range_with_len 0 (count_is i))

  module _ (some : at < length words) (few : count ≤ most) (fit : 3 * count ≤ length words - (at + 1)) (rising : Bool) (is : rising ≡ rises (signatures_at words (at + 1) count)) where
    -- all but the last of the checks pass
    by_order : first_failing (corrections_checks most rest) ≡ (if rising then None else Some 17)
    by_order =
        let many = length-drop at words in
        let left = length-drop 1 rest in
        let counted = count_is in
        let room : nat_le 1 (length rest) ≡ true = le-leb 1 (length rest) (omega arith) in
        let counts : nat_le (slice_index rest 0) most ≡ true = le-leb (slice_index rest 0) most (omega arith) in
        let long : nat_le (3 * slice_index rest 0) (length (drop 1 rest)) ≡ true = le-leb (3 * slice_index rest 0) (length (drop 1 rest)) (omega arith) in
        let order : rises (correction_list rest) ≡ rising = ap rises list_is ∙ sym is in
        λ i. first_failing ((11, room i) ∷ (12, counts i) ∷ (11, long i) ∷ (17, order i) ∷ [])

    pub order_fails : rising ≡ false → first_failing (corrections_checks most rest) ≡ Some 17
    order_fails bad = by_order ∙ ap (λ (b : Bool). if b then None else Some 17) bad

    pub corrections_found : rising ≡ true → most < 2 ^ 32 → IsFound (corrections_of most) words at (Corrections (record { count = count; body = at + 1; after = at + 1 + 3 * count }))
    corrections_found good small =
        let counted = count_is in
        record {
          passes = by_order ∙ ap (λ (b : Bool). if b then None else Some 17) good;
          section = ap corrections_section list_is;
          begins = refl;
          after = omega arith;
          within = omega arith;
          stands = record { few = omega arith; size = refl; within = omega arith; rising = sym is ∙ good };
        }
