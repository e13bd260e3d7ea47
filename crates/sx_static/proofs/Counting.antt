-- How many numbers the chunks have, and how many cells.
use Rattle.std.proofs.Common.{◌≡◌, ℕ, zero, suc, ◌+◌, ◌*◌, ◌<◌, ◌≤◌, ◌^◌, Bool, true, false, cond, List, [], ◌∷◌, length, map, take, get_or, refl, sym, ap, subst, ◌∙◌, arith, lit≤, zero-add, Vec, Global}
use Rattle.std.specs.Prelude.{◌==◌, sum_by, filter, nat_le}
use Rattle.std.specs.List.{enumerate_from, range_with_len}
use Rattle.std.proofs.lemmas.Bool.{le-leb}
use Rattle.std.proofs.lemmas.Bool.Decides.{Decides-eqb}
use Rattle.std.proofs.lemmas.List.{get_or-map}
use Rattle.std.proofs.lemmas.List.FromFn.{length-map-range_with_len}
use Rattle.std.proofs.lemmas.List.Sums.{sum_by-cons, sum_by_more_le, get_or-le-sum_by}
use Rattle.std.proofs.Math.Pow.{pow_mono}
use Rattle.sx_spec.specs.declared.Method.{Method}
use Rattle.sx_spec.specs.declared.Method.TheVariants.{Mwhc, Gov3}
use Rattle.sx_spec.specs.declared.Signature.{Signature}
use Rattle.sx_spec_strings.specs.Numbers.{binary_digits}
use Rattle.sx_spec_strings.proofs.NumberLaws.{least_from_le}
use Rattle.sx_spec.specs.Chunks.{chunk_size, chunk_bits, chunk_of, segment}
use Rattle.sx_sig.specs.Grouping.{chunk_numbers}
use Rattle.sx_static.specs.Chunks.{cells_needed, ListsHold}

-- ---- lists

-- the numbers of each chunk
abbrev pub lists_of : List (Vec ℕ Global) → List (List ℕ)
lists_of chunks = map (λ v. v.items) chunks

pub list_at : (chunks : List (Vec ℕ Global)) (i : ℕ) (v : Vec ℕ Global) → i < length chunks → v ≡ get_or chunks i v → v.items ≡ get_or (lists_of chunks) i []
list_at chunks i v inside is = ap (λ (u : Vec ℕ Global). u.items) is ∙ sym (get_or-map (λ (u : Vec ℕ Global). u.items) chunks i v [] inside)

-- ---- cells

pub few_cells : (method : Method) (n : ℕ) → 3 * segment method n ≤ 2 * n + 6
few_cells method zero = omega arith
few_cells Mwhc (suc n) = omega arith
few_cells Gov3 (suc n) = omega arith

all_cells_few : (method : Method) (lists : List (List ℕ)) → sum_by (cells_needed method) lists ≤ 2 * sum_by length lists + 6 * length lists
all_cells_few method [] = omega arith
all_cells_few method (numbers ∷ lists) =
    let a = sum_by-cons (cells_needed method) numbers lists in
    let b : sum_by length (numbers ∷ lists) ≡ length numbers + sum_by length lists = sum_by-cons length numbers lists in
    let here = few_cells method (length numbers) in
    let rest = all_cells_few method lists in
    omega arith

pub cells_short : (method : Method) (lists : List (List ℕ)) → ListsHold (2 ^ 27) lists → sum_by (cells_needed method) lists ≤ 2 ^ 32
cells_short method lists hold =
    let few = all_cells_few method lists in
    let a = hold.few in
    let b = hold.hold in
    omega arith

-- the cells so far, and those of a chunk more
pub cells_more : (method : Method) (lists : List (List ℕ)) (i : ℕ) → i < length lists → ListsHold (2 ^ 27) lists → sum_by (cells_needed method) (take i lists) + cells_needed method (get_or lists i []) ≤ 2 ^ 32
cells_more method lists i inside hold =
    let all = cells_short method lists hold in
    let more = sum_by_more_le (cells_needed method) lists i [] inside in
    omega arith

pub list_short : (lists : List (List ℕ)) (i : ℕ) → i < length lists → ListsHold (2 ^ 27) lists → length (get_or lists i []) ≤ 2 ^ 27
list_short lists i inside hold =
    let at : length (get_or lists i []) ≤ sum_by length lists = get_or-le-sum_by length lists i [] inside in
    let b = hold.hold in
    omega arith

-- ---- numbers of signatures

-- a number is one of those of a range once at most
none_below : (v a m : ℕ) → v < a → sum_by (λ j. cond (v == j) 1 0) (range_with_len a m) ≡ 0
none_below v a zero below = refl
none_below v a (suc m) below =
    let split : sum_by (λ j. cond (v == j) 1 0) (range_with_len a (suc m)) ≡ cond (v == a) 1 0 + sum_by (λ j. cond (v == j) 1 0) (range_with_len (a + 1) m) = sum_by-cons (λ j. cond (v == j) 1 0) a (range_with_len (a + 1) m) in
    let rest = none_below v (a + 1) m (omega arith) in
    let here : (v == a) ≡ false = elim (v == a) as (λ b. (v == a) ≡ b → b ≡ false) [
      | true ↦ λ e. absurd (let same = (Decides-eqb v a).0 e in omega arith)
      | false ↦ λ e. refl
    ] refl in
    let later = sum_by (λ j. cond (v == j) 1 0) (range_with_len (a + 1) m) in
    let off : cond (v == a) 1 0 + later ≡ 0 + later = ap (λ (b : Bool). cond b 1 0 + later) here in
    split ∙ off ∙ zero-add later ∙ rest

once_at_most : (v a m : ℕ) → sum_by (λ j. cond (v == j) 1 0) (range_with_len a m) ≤ 1
once_at_most v a zero = omega arith
once_at_most v a (suc m) =
    let split : sum_by (λ j. cond (v == j) 1 0) (range_with_len a (suc m)) ≡ cond (v == a) 1 0 + sum_by (λ j. cond (v == j) 1 0) (range_with_len (a + 1) m) = sum_by-cons (λ j. cond (v == j) 1 0) a (range_with_len (a + 1) m) in
    let rest = once_at_most v (a + 1) m in
    elim (v == a) as (λ b. (v == a) ≡ b → sum_by (λ j. cond (v == j) 1 0) (range_with_len a (suc m)) ≤ 1) [
      | true ↦ λ e.
          let same = (Decides-eqb v a).0 e in
          let later = sum_by (λ j. cond (v == j) 1 0) (range_with_len (a + 1) m) in
          let none : later ≡ 0 = none_below v (a + 1) m (omega arith) in
          let on : sum_by (λ j. cond (v == j) 1 0) (range_with_len a (suc m)) ≡ 1 + later = split ∙ ap (λ (b : Bool). cond b 1 0 + later) e in
          subst (λ n. n ≤ 1) (sym (on ∙ ap (λ n. 1 + n) none)) (lit≤ tt)
      | false ↦ λ e.
          let later = sum_by (λ j. cond (v == j) 1 0) (range_with_len (a + 1) m) in
          let off : sum_by (λ j. cond (v == j) 1 0) (range_with_len a (suc m)) ≡ later = split ∙ ap (λ (b : Bool). cond b 1 0 + later) e ∙ zero-add later in
          subst (λ n. n ≤ 1) (sym off) rest
    ] refl

sum_of_sums : (f g h : ℕ → ℕ) (js : List ℕ) → ((j : ℕ) → f j ≡ g j + h j) → sum_by f js ≡ sum_by g js + sum_by h js
sum_of_sums f g h [] each = refl
sum_of_sums f g h (j ∷ js) each =
    let a = sum_by-cons f j js in
    let b = sum_by-cons g j js in
    let d = sum_by-cons h j js in
    let here = each j in
    let rest = sum_of_sums f g h js each in
    omega arith

-- how many numbers of a list's elements lie in a chunk
count_in : {X : Type 0} → (X → ℕ) → ℕ → List X → ℕ → ℕ
count_in h n xs j = length (map (λ t. t.0) (filter (λ t. h t.1 == j) (enumerate_from n xs)))

count_in-cons : {X : Type 0} (h : X → ℕ) (n : ℕ) (x : X) (xs : List X) (j : ℕ) → count_in h n (x ∷ xs) j ≡ cond (h x == j) 1 0 + count_in h (n + 1) xs j
unfolding count_in
count_in-cons h n x xs j =
    let later = filter (λ t. h t.1 == j) (enumerate_from (n + 1) xs) in
    elim (h x == j) as (λ b. length (map (λ t. t.0) (cond b ((n, x) ∷ later) later)) ≡ cond b 1 0 + length (map (λ t. t.0) later)) [
      | true ↦ omega arith
      | false ↦ omega arith
    ]

zeros : (f : ℕ → ℕ) (js : List ℕ) → ((j : ℕ) → f j ≡ 0) → sum_by f js ≡ 0
zeros f [] each = refl
zeros f (j ∷ js) each =
    let a = sum_by-cons f j js in
    let here = each j in
    let rest = zeros f js each in
    omega arith

counts_few : {X : Type 0} (h : X → ℕ) (n : ℕ) (xs : List X) (m : ℕ) → sum_by (count_in h n xs) (range_with_len 0 m) ≤ length xs
counts_few h n [] m = let none = zeros (count_in h n []) (range_with_len 0 m) (λ j. unfold count_in in refl) in omega arith
counts_few h n (x ∷ xs) m =
    let split = sum_of_sums (count_in h n (x ∷ xs)) (λ j. cond (h x == j) 1 0) (count_in h (n + 1) xs) (range_with_len 0 m) (count_in-cons h n x xs) in
    let here = once_at_most (h x) 0 m in
    let rest = counts_few h (n + 1) xs m in
    omega arith

pub sum_by_mapped : {X Y : Type 0} (f : Y → ℕ) (g : X → Y) (xs : List X) → sum_by f (map g xs) ≡ sum_by (λ x. f (g x)) xs
sum_by_mapped f g [] = refl
sum_by_mapped f g (x ∷ xs) =
    let a = sum_by-cons f (g x) (map g xs) in
    let b = sum_by-cons (λ x. f (g x)) x xs in
    let rest = sum_by_mapped f g xs in
    omega arith

few_bits : (n : ℕ) → n ≤ 2 ^ 27 → chunk_bits n ≤ 17
few_bits n few = least_from_le (λ c. nat_le n (chunk_size * 2 ^ c)) (binary_digits n) 0 17 (omega arith) (le-leb n (chunk_size * 2 ^ 17) (omega arith))

-- the chunks' numbers are few
pub lists_hold : (sigs : List Signature) → length sigs ≤ 2 ^ 27 → ListsHold (2 ^ 27) (map (chunk_numbers (chunk_bits (length sigs)) sigs) (range_with_len 0 (2 ^ chunk_bits (length sigs))))
unfolding count_in
lists_hold sigs few =
    let bits = chunk_bits (length sigs) in
    let many : 2 ^ bits ≤ 2 ^ 17 = pow_mono (few_bits (length sigs) few) in
    let long = length-map-range_with_len (chunk_numbers bits sigs) 0 (2 ^ bits) in
    let sums : sum_by length (map (chunk_numbers bits sigs) (range_with_len 0 (2 ^ bits))) ≡ sum_by (count_in (λ sig. chunk_of sig bits) 0 sigs) (range_with_len 0 (2 ^ bits)) = sum_by_mapped length (chunk_numbers bits sigs) (range_with_len 0 (2 ^ bits)) in
    let most = counts_few (λ sig. chunk_of sig bits) 0 sigs (2 ^ bits) in
    record { few = omega arith; hold = omega arith }
