-- What a list keeps of signatures at their places.
use Rattle.std.proofs.Common.{◌≡◌, ℕ, ◌+◌, ◌-◌, ◌^◌, ◌<◌, ◌≤◌, List, length, map, set, ap, sym, ◌∙◌, arith, below_more, zero-add}
use Rattle.std.specs.List.{range_with_len, slice_index_or}
use Rattle.std.proofs.lemmas.List.{ext_get_or, get_or-map, get_or-set_other, get_or-set_same, length-map, length-set}
use Rattle.std.proofs.lemmas.List.FromFn.{get_or-range_with_len, length-range_with_len}
use Rattle.std.proofs.lemmas.Nat.{shr_below}
use Rattle.sx_spec.specs.declared.Signature.{Signature}
use Rattle.sx_spec.specs.Reply.{top_bits}
use Rattle.sx_signed.specs.Keeping.{AreKept, ArePlaces, no_signature}

-- the highest bits of a word of 64 bits are a number of so many bits
pub top_bits_below : (width : ℕ) (sig : Signature) → width ≤ 64 → sig.w2 < 2 ^ 64 → top_bits width sig < 2 ^ width
top_bits_below width sig narrow small =
    let e : width + (64 - width) ≡ 64 = omega arith in
    shr_below sig.w2 width (64 - width) (rw e small)

-- at the places of the first signatures stand their highest bits
pub record AreKeptBefore (width n : ℕ) (sigs : List Signature) (places items : List ℕ) : Type 0 where
  pub count : length items ≡ length sigs
  pub there : (i : ℕ) → i < n → slice_index_or items (slice_index_or places i 0) 0 ≡ top_bits width (slice_index_or sigs i no_signature)

-- one signature more
pub one_more_kept : (width n : ℕ) (sigs : List Signature) (places items : List ℕ) (v : ℕ) → ArePlaces places → length places ≡ length sigs → n < length sigs
    → AreKeptBefore width n sigs places items → v ≡ top_bits width (slice_index_or sigs n no_signature)
    → AreKeptBefore width (n + 1) sigs places (set items (slice_index_or places n 0) v)
one_more_kept width n sigs places items v are same within before is =
    let place = slice_index_or places n 0 in
    let inside : place < length items = (let w = are.within n (omega arith) in let c = before.count in omega arith) in
    record {
      count = length-set items place v ∙ before.count;
      there = below_more _ _
          (λ k lt. get_or-set_other items place (slice_index_or places k 0) v 0
          (λ e. let twice : k ≡ n = are.once k n (omega arith) (omega arith) e in omega arith)
          ∙ before.there k lt)
          (get_or-set_same items place v 0 inside ∙ is);
    }

-- all signatures
pub all_kept : (width : ℕ) (sigs : List Signature) (places items : List ℕ) → AreKeptBefore width (length sigs) sigs places items → AreKept width sigs places items
all_kept width sigs places items before = record { count = before.count; there = before.there }

-- ---- signatures in the order of their places

-- the numbers below their count are places
pub are_places_in_order : (n : ℕ) → ArePlaces (range_with_len 0 n)
are_places_in_order n =
    let count : length (range_with_len 0 n) ≡ n = length-range_with_len 0 n in
    record {
      within = λ i lt. let at : slice_index_or (range_with_len 0 n) i 0 ≡ 0 + i = get_or-range_with_len 0 n i 0 (omega arith) in omega arith;
      once = λ i j lt more same.
          let at : slice_index_or (range_with_len 0 n) i 0 ≡ 0 + i = get_or-range_with_len 0 n i 0 (omega arith) in
          let at' : slice_index_or (range_with_len 0 n) j 0 ≡ 0 + j = get_or-range_with_len 0 n j 0 (omega arith) in
          omega arith;
    }

-- what is kept in this order is the highest bits of each signature
pub kept_in_order : (width : ℕ) (sigs : List Signature) (items : List ℕ) → AreKept width sigs (range_with_len 0 (length sigs)) items → items ≡ map (top_bits width) sigs
kept_in_order width sigs items kept =
    ext_get_or 0 items (map (top_bits width) sigs) (kept.count ∙ sym (length-map sigs (top_bits width)))
    (λ i lt.
    let c = kept.count in
    let within : i < length sigs = omega arith in
    let at : slice_index_or (range_with_len 0 (length sigs)) i 0 ≡ i = get_or-range_with_len 0 (length sigs) i 0 within ∙ zero-add i in
    sym (ap (λ (p : ℕ). slice_index_or items p 0) at) ∙ kept.there i within ∙ sym (get_or-map (top_bits width) sigs i no_signature 0 within))
