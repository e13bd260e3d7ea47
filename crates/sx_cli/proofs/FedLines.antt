-- Lines that each end in a line feed, and what follows the last of them.
use Rattle.std.proofs.Common.{◌≡◌, ℕ, zero, suc, ◌+◌, ◌-◌, ◌<◌, ◌≤◌, true, List, [], ◌∷◌, ◌++◌, length, take, get_or, refl, sym, ap, ◌∙◌, arith, append_assoc, append-nil}
use Rattle.std.specs.Prelude.{not}
use Rattle.std.specs.List.{AllByRecursion, list_any, suffix_len}
use Rattle.std.proofs.lemmas.List.{length-append}
use Rattle.std.proofs.lemmas.List.Sums.{suffix_len_is}
use Rattle.std.proofs.Math.Seq.{take-append_seam, drop-append_seam}
use Rattle.std.proofs.lemmas.Bool.{or_parts}
use Rattle.sx_spec_strings.specs.Lines.{is_line_feed, lines, unfinished_line, complete_lines}
use Rattle.sx_edge.specs.Places.{HasNoFeed}
use Rattle.sx_edge.proofs.LineLaws.{lines-feed}
use Rattle.sx_cli.specs.KeyLines.{fed}

-- lines and what follows them
pub lines-fed_all : (ls : List (List ℕ)) (rest : List ℕ) → AllByRecursion HasNoFeed ls → lines (fed ls ++ rest) ≡ ls ++ lines rest
lines-fed_all [] rest none = refl
lines-fed_all (l ∷ ls) rest none =
    let first : (l ++ 10 ∷ fed ls) ++ rest ≡ l ++ 10 ∷ (fed ls ++ rest) = append_assoc l (10 ∷ fed ls) rest in
    ap lines first ∙ lines-feed l (fed ls ++ rest) none.0 ∙ ap (λ (x : List (List ℕ)). l ∷ x) (lines-fed_all ls rest none.1)

fed-more : (ls : List (List ℕ)) (line : List ℕ) → fed (ls ++ line ∷ []) ≡ fed ls ++ (line ++ 10 ∷ [])
fed-more [] line = refl
fed-more (l ∷ ls) line = ap (λ (x : List ℕ). l ++ 10 ∷ x) (fed-more ls line) ∙ sym (append_assoc l (10 ∷ fed ls) (line ++ 10 ∷ []))

-- one more line
pub fed-push : (ls : List (List ℕ)) (line rest : List ℕ) → fed ls ++ ((line ++ 10 ∷ []) ++ rest) ≡ fed (ls ++ line ∷ []) ++ rest
fed-push ls line rest = sym (append_assoc (fed ls) (line ++ 10 ∷ []) rest) ∙ ap (λ (x : List ℕ). x ++ rest) (sym (fed-more ls line))

pub all_push : {X : Type 0} (P : X → Type 0) (xs : List X) (x : X) → AllByRecursion P xs → P x → AllByRecursion P (xs ++ x ∷ [])
all_push P [] x all here = (here, tt)
all_push P (y ∷ xs) x all here = (all.0, all_push P xs x all.1 here)

no_feed_at : (held : List ℕ) → HasNoFeed held → (k : ℕ) → not (is_line_feed (get_or held k 0)) ≡ true
no_feed_at [] none k = refl
no_feed_at (b ∷ held) none zero = let (here, later) = or_parts (is_line_feed b) (list_any is_line_feed held) none in ap not here
no_feed_at (b ∷ held) none (suc k) = let (here, later) = or_parts (is_line_feed b) (list_any is_line_feed held) none in no_feed_at held later k

get_behind : (xs ys : List ℕ) (k : ℕ) → length xs ≤ k → get_or (xs ++ ys) k 0 ≡ get_or ys (k - length xs) 0
get_behind [] ys k le = let e : k - 0 ≡ k = omega arith in rw e refl
get_behind (x ∷ xs) ys zero le = absurd (omega arith)
get_behind (x ∷ xs) ys (suc k) le = let e : suc k - suc (length xs) ≡ k - length xs = omega arith in rw e (get_behind xs ys k (omega arith))

get_before : (xs ys : List ℕ) (k : ℕ) → k < length xs → get_or (xs ++ ys) k 0 ≡ get_or xs k 0
get_before [] ys k lt = absurd (omega arith)
get_before (x ∷ xs) ys zero lt = refl
get_before (x ∷ xs) ys (suc k) lt = get_before xs ys k (omega arith)

-- the last byte of lines is a line feed
last_feed : (ls : List (List ℕ)) → 0 < length (fed ls) → get_or (fed ls) (length (fed ls) - 1) 0 ≡ 10
last_feed [] some = absurd (omega arith)
last_feed (l ∷ []) some =
    let at : length (l ++ 10 ∷ []) - 1 ≡ length l = omega (arith, length-append l (10 ∷ [])) in
    let none : length l - length l ≡ 0 = omega arith in
    rw at (get_behind l (10 ∷ []) (length l) (omega arith) ∙ rw none refl)
last_feed (l ∷ m ∷ ls) some =
    let long : length (fed (m ∷ ls)) ≡ length m + suc (length (fed ls)) = length-append m (10 ∷ fed ls) in
    let whole : length (l ++ 10 ∷ fed (m ∷ ls)) ≡ length l + suc (length (fed (m ∷ ls))) = length-append l (10 ∷ fed (m ∷ ls)) in
    let rest = last_feed (m ∷ ls) (omega arith) in
    let at : length (l ++ 10 ∷ fed (m ∷ ls)) - 1 - length l ≡ suc (length (fed (m ∷ ls)) - 1) = omega arith in
    get_behind l (10 ∷ fed (m ∷ ls)) (length (l ++ 10 ∷ fed (m ∷ ls)) - 1) (omega arith) ∙ rw at rest

module _ (ls : List (List ℕ)) (held : List ℕ) (none : HasNoFeed held) where
  behind : suffix_len (λ b. not (is_line_feed b)) (fed ls ++ held) ≡ length (fed ls ++ held) - length (fed ls)
  behind =
      let size = length-append (fed ls) held in
      suffix_len_is (λ b. not (is_line_feed b)) (fed ls ++ held) (length (fed ls)) 0 (omega arith)
      (λ k low high. rw (get_behind (fed ls) held k low) (no_feed_at held none (k - length (fed ls))))
      (λ some. rw (get_before (fed ls) held (length (fed ls) - 1) (omega arith), last_feed ls some) refl)

  -- what follows the lines is unfinished
  pub unfinished-fed : unfinished_line (fed ls ++ held) ≡ held
  unfinished-fed =
      let size = length-append (fed ls) held in
      let at : length (fed ls ++ held) - suffix_len (λ b. not (is_line_feed b)) (fed ls ++ held) ≡ length (fed ls) = omega (arith, behind) in
      rw at (drop-append_seam (fed ls) held)

  -- the lines are complete
  pub complete-fed : AllByRecursion HasNoFeed ls → complete_lines (fed ls ++ held) ≡ ls
  complete-fed each =
      let size = length-append (fed ls) held in
      let rest = unfinished-fed in
      let at : length (fed ls ++ held) - length (unfinished_line (fed ls ++ held)) ≡ length (fed ls) = omega (arith, ap length rest) in
      let front : take (length (fed ls ++ held) - length (unfinished_line (fed ls ++ held))) (fed ls ++ held) ≡ fed ls ++ [] = rw at (take-append_seam (fed ls) held ∙ sym (append-nil (fed ls))) in
      ap lines front ∙ lines-fed_all ls [] each ∙ append-nil ls
