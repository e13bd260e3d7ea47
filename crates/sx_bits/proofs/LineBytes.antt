-- Bytes that are copied out of a line, and zero bytes after them.
use Rattle.std.proofs.Common.{◌≡◌, ℕ, ◌+◌, ◌-◌, ◌<◌, List, ◌++◌, length, get_or, take, drop, refl, sym, ap, ◌∙◌, arith, inl, inr}
use Rattle.std.specs.Prelude.{replicate, min, slice_index}
use Rattle.std.proofs.lemmas.Bool.{cases_lt}
use Rattle.std.proofs.lemmas.List.{length-append, length-take, length-drop, length-replicate, get_or-take, get_or-drop, get_or_append_left, get_or-append_right, get_or-replicate, get_or_past, take_at}

pub zeros : (n i : ℕ) → get_or (replicate {A = ℕ} n 0) i 0 ≡ 0
zeros n i =
    elim (cases_lt i n) [
      | inl lt ↦ get_or-replicate {A = ℕ} n i 0 0 lt
      | inr ge ↦ get_or_past (replicate {A = ℕ} n 0) i 0 (let e = length-replicate {A = ℕ} n 0 in omega arith)
    ]

-- zero bytes with nothing after them
padded : (n i : ℕ) (rest : List ℕ) → length rest ≡ 0 → get_or (replicate n 0 ++ rest) i 0 ≡ 0
padded n i rest none =
    let e = length-replicate {A = ℕ} n 0 in
    elim (cases_lt i n) [
      | inl lt ↦ get_or_append_left (replicate n 0) rest 0 i (omega arith) ∙ zeros n i
      | inr ge ↦ get_or-append_right (replicate n 0) rest n i 0 e ge ∙ get_or_past rest (i - n) 0 (omega arith)
    ]

-- what stands at i, where the front is copied, zero bytes follow, and nothing is left of what was there
pub copied : (line front old tail rest : List ℕ) (start first have m i : ℕ)
    → first ≡ min start (length line) → have ≡ min (length line - first) (length old)
    → front ≡ take (first + have - first) (drop first line) → tail ≡ replicate m 0 → m + have ≡ length old → length rest ≡ 0
    → i < length (take have (front ++ drop have old) ++ (tail ++ rest))
    → slice_index (take have (front ++ drop have old) ++ (tail ++ rest)) i ≡ slice_index line (start + i)
copied line front old tail rest start first have m i f h same zero_bytes all none lt =
    let e : first + have - first ≡ have = omega arith in
    let part : front ≡ take have (drop first line) = same ∙ ap (λ k. take k (drop first line)) e in
    let long : length front ≡ have = ap length part ∙ (let a = length-take have (drop first line) in let b = length-drop first line in omega arith) in
    let front_is : take have (front ++ drop have old) ≡ front = take_at front (drop have old) have long in
    let whole : take have (front ++ drop have old) ++ (tail ++ rest) ≡ front ++ (replicate m 0 ++ rest) = rw (front_is, zero_bytes) refl in
    let size : length (take have (front ++ drop have old) ++ (tail ++ rest)) ≡ have + (m + 0) =
    ap length whole ∙ length-append front (replicate m 0 ++ rest)
    ∙ (let a = length-append (replicate m 0) rest in let b = length-replicate {A = ℕ} m 0 in omega arith) in
    ap (λ xs. get_or xs i 0) whole ∙
    elim (cases_lt i have) [
      | inl low ↦
          let g : first + i ≡ start + i = omega arith in
          get_or_append_left front (replicate m 0 ++ rest) 0 i (omega arith)
          ∙ ap (λ xs. get_or xs i 0) part
          ∙ get_or-take have (drop first line) i 0 low
          ∙ get_or-drop first line i 0
          ∙ ap (λ k. get_or line k 0) g
      | inr high ↦
          get_or-append_right front (replicate m 0 ++ rest) have i 0 long high
          ∙ padded m (i - have) rest none
          ∙ sym (get_or_past line (start + i) 0 (omega arith))
    ]
