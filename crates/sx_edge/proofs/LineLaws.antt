-- Lines of bytes that come one line after the other.
use Rattle.std.proofs.Common.{◌≡◌, ◌≢◌, ℕ, ◌+◌, ◌-◌, ◌<◌, ◌⊎◌, Bool, true, false, not, cond, List, [], ◌∷◌, ◌++◌, drop, length, get_or, arith, refl, sym, ap, ◌∙◌, inl, inr, append_assoc, length-append, length-drop, reverse}
use Rattle.std.proofs.Math.ListN.{drop_of_length-le}
use Rattle.std.proofs.Math.Seq.{take-append_seam, drop-append_seam}
use Rattle.std.proofs.lemmas.Bool.Decides.{nat_tests}
use Rattle.std.proofs.lemmas.List.{reverse-append, reverse-reverse, length-reverse}
use Rattle.std.proofs.lemmas.List.Folds.{list_any-append}
use Rattle.std.proofs.lemmas.List.Sums.{suffix_len-le-length}
use Rattle.std.specs.List.{onto_first, prefix_len, suffix_len}
use Rattle.sx_spec_strings.specs.Lines.{is_line_feed, lines, unfinished_line, complete_lines}
use Rattle.sx_edge.specs.Places.{HasNoFeed}
use Rattle.sx_edge.specs.Reading.{first_line}

-- ---- lines from the front

is_ten : (b : ℕ) → is_line_feed b ≡ true → b ≡ 10
is_ten b e = grind (arith, nat_tests, e)

first_free : (b : ℕ) (bytes : List ℕ) → HasNoFeed (b ∷ bytes) → is_line_feed b ≡ false
first_free b bytes free = grind (arith, nat_tests, free)

later_free : (b : ℕ) (bytes : List ℕ) → HasNoFeed (b ∷ bytes) → HasNoFeed bytes
later_free b bytes free = grind (arith, nat_tests, free)

-- a line that a line feed ends is the first
pub lines-feed : (x rest : List ℕ) → HasNoFeed x → lines (x ++ 10 ∷ rest) ≡ x ∷ lines rest
lines-feed [] rest free = refl
lines-feed (b ∷ x) rest free =
    rw (first_free b x free, lines-feed x rest (later_free b x free)) refl

-- a rest that is not empty is one line
pub lines-last : (x : List ℕ) → HasNoFeed x → x ≢ [] → lines x ≡ x ∷ []
lines-last [] free some = absurd (some refl)
lines-last (b ∷ []) free some = rw (first_free b [] free) refl
lines-last (b ∷ c ∷ x) free some =
    rw (first_free b (c ∷ x) free, lines-last (c ∷ x) (later_free b (c ∷ x) free) (λ e. cc)) refl

-- bytes with a first line begin with it
pub lines-first : (bytes : List ℕ) → 0 < length (first_line bytes) → lines bytes ≡ first_line bytes ∷ drop 1 (lines bytes)
lines-first bytes some = front (lines bytes) some
  where
    front : (parts : List (List ℕ)) → 0 < length (get_or parts 0 []) → parts ≡ get_or parts 0 [] ∷ drop 1 parts
    front [] some = absurd (omega arith)
    front (part ∷ parts) some = refl

-- ---- lines behind whole lines

lines_some : (b : ℕ) (bytes : List ℕ) → 0 < length (lines (b ∷ bytes))
lines_some b bytes = by (is_line_feed b) (lines bytes)
  where
    by : (e : Bool) (parts : List (List ℕ)) → 0 < length (cond e ([] ∷ parts) (onto_first b parts))
    by true parts = omega arith
    by false [] = omega arith
    by false (part ∷ parts) = omega arith

onto_first-append : (b : ℕ) (parts more : List (List ℕ)) → 0 < length parts → onto_first b (parts ++ more) ≡ onto_first b parts ++ more
onto_first-append b [] more some = absurd (omega arith)
onto_first-append b (part ∷ parts) more some = refl

some_append : (xs rest : List ℕ) → 0 < length (lines (xs ++ 10 ∷ rest))
some_append [] rest = lines_some 10 rest
some_append (b ∷ xs) rest = lines_some b (xs ++ 10 ∷ rest)

fed_cases : (e : Bool) (b : ℕ) (whole front rest : List (List ℕ)) → whole ≡ front ++ rest → 0 < length front → cond e ([] ∷ whole) (onto_first b whole) ≡ cond e ([] ∷ front) (onto_first b front) ++ rest
fed_cases true b whole front rest is some = ap (λ (l : List (List ℕ)). [] ∷ l) is
fed_cases false b whole front rest is some = ap (λ (l : List (List ℕ)). onto_first b l) is ∙ onto_first-append b front rest some

lines_fed : (xs rest : List ℕ) → lines (xs ++ 10 ∷ rest) ≡ lines (xs ++ 10 ∷ []) ++ lines rest
lines_fed [] rest = refl
lines_fed (b ∷ xs) rest = fed_cases (is_line_feed b) b (lines (xs ++ 10 ∷ rest)) (lines (xs ++ 10 ∷ [])) (lines rest) (lines_fed xs rest) (some_append xs [])

-- ---- what follows the last line feed

free_len : (ys zs : List ℕ) → HasNoFeed ys → prefix_len (λ b. not (is_line_feed b)) (ys ++ zs) ≡ length ys + prefix_len (λ b. not (is_line_feed b)) zs
free_len [] zs free = omega arith
free_len (b ∷ ys) zs free = rw (first_free b ys free) (omega (arith, free_len ys zs (later_free b ys free)))

free_reverse : (xs : List ℕ) → HasNoFeed xs → HasNoFeed (reverse xs)
free_reverse [] free = refl
free_reverse (b ∷ xs) free =
    let split : reverse (b ∷ xs) ≡ reverse xs ++ (b ∷ []) = reverse-append (b ∷ []) xs in
    rw split (list_any-append is_line_feed (reverse xs) (b ∷ []) ∙ rw (free_reverse xs (later_free b xs free), first_free b xs free) refl)

unfinished_len : (bytes : List ℕ) → length (unfinished_line bytes) ≡ suffix_len (λ b. not (is_line_feed b)) bytes
unfinished_len bytes = omega (arith, length-drop (length bytes - suffix_len (λ b. not (is_line_feed b)) bytes) bytes, suffix_len-le-length (λ b. not (is_line_feed b)) bytes)

ends_fed : (given r : List ℕ) → given ≡ reverse r → prefix_len (λ b. not (is_line_feed b)) r ≡ 0 → (given ≡ []) ⊎ ((xs : List ℕ) × (given ≡ xs ++ 10 ∷ []))
ends_fed given [] is none = inl is
ends_fed given (b ∷ r) is none =
    let feed : is_line_feed b ≡ true = grind (arith, nat_tests, none) in
    let split : reverse (b ∷ r) ≡ reverse r ++ (b ∷ []) = reverse-append (b ∷ []) r in
    inr (reverse r, is ∙ split ∙ ap (λ (n : ℕ). reverse r ++ (n ∷ [])) (is_ten b feed))

-- bytes without an unfinished line are none, or end with a line feed
pub whole_ends : (given : List ℕ) → unfinished_line given ≡ [] → (given ≡ []) ⊎ ((xs : List ℕ) × (given ≡ xs ++ 10 ∷ []))
whole_ends given none = ends_fed given (reverse given) (sym (reverse-reverse given)) (sym (unfinished_len given) ∙ ap (λ (l : List ℕ). length l) none)

pub lines-whole : (given rest : List ℕ) → unfinished_line given ≡ [] → lines (given ++ rest) ≡ lines given ++ lines rest
lines-whole given rest none = elim (whole_ends given none) [
  | inl e ↦ rw e refl
  | inr h ↦ rw (h.1, append_assoc h.0 (10 ∷ []) rest) (lines_fed h.0 rest)
]

-- bytes that a line feed ends have no unfinished line
pub unfinished-feed : (given x : List ℕ) → unfinished_line (given ++ (x ++ 10 ∷ [])) ≡ []
unfinished-feed given x =
    let all : List ℕ = given ++ (x ++ 10 ∷ []) in
    let shape : reverse (given ++ (x ++ 10 ∷ [])) ≡ (10 ∷ reverse x) ++ reverse given = reverse-append given (x ++ 10 ∷ []) ∙ ap (λ (l : List ℕ). l ++ reverse given) (reverse-append x (10 ∷ [])) in
    let none : suffix_len (λ b. not (is_line_feed b)) (given ++ (x ++ 10 ∷ [])) ≡ 0 = ap (λ (l : List ℕ). prefix_len (λ b. not (is_line_feed b)) l) shape in
    drop_of_length-le (given ++ (x ++ 10 ∷ [])) (omega (arith, none))

held_len : (given held : List ℕ) → unfinished_line given ≡ [] → HasNoFeed held → suffix_len (λ b. not (is_line_feed b)) (given ++ held) ≡ length held
held_len given held none free =
    let nothing : prefix_len (λ b. not (is_line_feed b)) (reverse given) ≡ 0 = sym (unfinished_len given) ∙ ap (λ (l : List ℕ). length l) none in
    ap (λ (l : List ℕ). prefix_len (λ b. not (is_line_feed b)) l) (reverse-append given held) ∙ omega (arith, free_len (reverse held) (reverse given) (free_reverse held free), nothing, length-reverse held)

-- what follows whole lines and has no line feed is the unfinished line
pub unfinished-held : (given held : List ℕ) → unfinished_line given ≡ [] → HasNoFeed held → unfinished_line (given ++ held) ≡ held
unfinished-held given held none free =
    let size : length (given ++ held) - suffix_len (λ b. not (is_line_feed b)) (given ++ held) ≡ length given = omega (arith, held_len given held none free, length-append given held) in
    rw size (drop-append_seam given held)

-- and the lines before it are those of the whole lines
pub complete-held : (given held : List ℕ) → unfinished_line given ≡ [] → HasNoFeed held → complete_lines (given ++ held) ≡ lines given
complete-held given held none free =
    let size : length (given ++ held) - length (unfinished_line (given ++ held)) ≡ length given = omega (arith, ap (λ (l : List ℕ). length l) (unfinished-held given held none free), length-append given held) in
    rw (size, take-append_seam given held) refl
