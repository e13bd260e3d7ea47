-- Bytes that are cut at ends, and one more piece behind them.
use Rattle.std.proofs.Common.{◌≡◌, ℕ, zero, suc, ◌+◌, ◌-◌, ◌<◌, ◌≤◌, List, [], ◌∷◌, ◌++◌, length, take, drop, get_or, Some, refl, sym, ap, ◌∙◌, arith}
use Rattle.std.specs.Prelude.{slice_get, slice_range}
use Rattle.std.proofs.lemmas.List.{take-append-le, drop-append-le, length-take, length-drop, drop_at, take_all}
use Rattle.std.proofs.lemmas.List.Sums.{sum_by-cons}
use Rattle.sx_spec.specs.Keys.{total_bytes}
use Rattle.sx_bits.specs.Cuts.{cut, AreEnds}

-- ---- the pieces

pub cut_count : (start : ℕ) (ends bytes : List ℕ) → length (cut start ends bytes) ≡ length ends
cut_count start [] bytes = refl
cut_count start (end ∷ ends) bytes = ap suc (cut_count end ends bytes)

-- a piece by its number
pub cut_at : (start : ℕ) (ends bytes : List ℕ) (i : ℕ) → i < length ends → slice_get (cut start ends bytes) i ≡ Some (slice_range bytes (get_or (start ∷ ends) i 0) (get_or ends i 0))
cut_at start [] bytes i lt = absurd (omega (arith, lt))
cut_at start (end ∷ ends) bytes zero lt = refl
cut_at start (end ∷ ends) bytes (suc i) lt = cut_at end ends bytes i (omega arith)

-- the last end is the greatest
start_within : (start : ℕ) (ends : List ℕ) (stop : ℕ) → AreEnds start ends stop → start ≤ stop
start_within start [] stop are = omega arith
start_within start (end ∷ ends) stop are = let rest = start_within end ends stop are.1 in omega (arith, are.0)

-- a piece lies within the bytes
pub piece_within : (start : ℕ) (ends : List ℕ) (stop i : ℕ) → AreEnds start ends stop → i < length ends → (get_or (start ∷ ends) i 0 ≤ get_or ends i 0) × (get_or ends i 0 ≤ stop)
piece_within start [] stop i are lt = absurd (omega (arith, lt))
piece_within start (end ∷ ends) stop zero are lt = (are.0, start_within end ends stop are.1)
piece_within start (end ∷ ends) stop (suc i) are lt = piece_within end ends stop i are.1 (omega arith)

-- the pieces have all bytes from the start on
pub cut_total : (start : ℕ) (ends bytes : List ℕ) → AreEnds start ends (length bytes) → start + total_bytes (cut start ends bytes) ≡ length bytes
cut_total start [] bytes are = omega arith
cut_total start (end ∷ ends) bytes are =
    let rest = cut_total end ends bytes are.1 in
    let most = start_within end ends (length bytes) are.1 in
    let piece : length (slice_range bytes start end) ≡ end - start = simp (length-take, length-drop) (omega arith) in
    let all : total_bytes (cut start (end ∷ ends) bytes) ≡ length (slice_range bytes start end) + total_bytes (cut end ends bytes) =
    sum_by-cons (λ (key : List ℕ). length key) (slice_range bytes start end) (cut end ends bytes) in
    omega (arith, are.0)

-- ---- one more piece

range_before : (bytes line : List ℕ) (start end : ℕ) → start ≤ end → end ≤ length bytes → slice_range (bytes ++ line) start end ≡ slice_range bytes start end
range_before bytes line start end le most =
    ap (take (end - start)) (drop-append-le start bytes line (omega arith))
    ∙ take-append-le (end - start) (drop start bytes) line (simp length-drop (omega arith))

range_last : (bytes line : List ℕ) (start : ℕ) → start ≡ length bytes → slice_range (bytes ++ line) start (length bytes + length line) ≡ line
range_last bytes line start is =
    ap (take ((length bytes + length line) - start)) (drop_at bytes line start (sym is)) ∙ take_all ((length bytes + length line) - start) line (omega arith)

-- the pieces with one more, which is the bytes put behind
pub cut_push : (start : ℕ) (ends bytes line : List ℕ) → AreEnds start ends (length bytes)
    → cut start (ends ++ (length bytes + length line) ∷ []) (bytes ++ line) ≡ cut start ends bytes ++ line ∷ []
cut_push start [] bytes line are = ap (λ (l : List ℕ). l ∷ []) (range_last bytes line start are)
cut_push start (end ∷ ends) bytes line are =
    ap (λ (l : List ℕ). l ∷ cut end (ends ++ (length bytes + length line) ∷ []) (bytes ++ line)) (range_before bytes line start end are.0 (start_within end ends (length bytes) are.1))
    ∙ ap (λ (ls : List (List ℕ)). slice_range bytes start end ∷ ls) (cut_push end ends bytes line are.1)

pub ends_push : (start : ℕ) (ends : List ℕ) (stop more : ℕ) → AreEnds start ends stop → AreEnds start (ends ++ (stop + more) ∷ []) (stop + more)
ends_push start [] stop more are = (omega arith, refl)
ends_push start (end ∷ ends) stop more are = (are.0, ends_push end ends stop more are.1)

-- a piece begins where the one before ends
pub start_at : (ends : List ℕ) (i : ℕ) → (i ≡ 0 → ⊥) → get_or (0 ∷ ends) i 0 ≡ get_or ends (i - 1) 0
start_at ends zero some = absurd (some refl)
start_at ends (suc i) some = let before : i ≡ suc i - 1 = omega arith in ap (λ n. get_or ends n 0) before
