-- How many cells and words a function has.
use Rattle.std.proofs.Common.{◌≡◌, ℕ, zero, suc, ◌+◌, ◌*◌, ◌<◌, ◌≤◌, Bool, true, false, cond, List, [], ◌∷◌, length, refl, arith, inl, inr}
use Rattle.std.specs.Prelude.{◌==◌, filter}
use Rattle.std.specs.List.{AllZip, range_with_len}
use Rattle.std.proofs.lemmas.Bool.{cases_eq, eq-eqb, ne_eqb}
use Rattle.std.proofs.Math.Nat.{mul-le-mul_left}
use Rattle.sx_spec.specs.declared.Method.{Method}
use Rattle.sx_spec.specs.Fields.{words_for}
use Rattle.sx_spec.specs.StaticFunction.{Entry, Chunk, Function, cell_count, chunk_of_entry, chunk_entries, IsBuiltChunk}
use Rattle.sx_spec.proofs.Sections.{cell_count-cons}
use Rattle.sx_static.proofs.Counting.{few_cells}

-- ---- each entry lies in one chunk at most

-- how many of n chunks from a on are k
abbrev hits : ℕ → ℕ → ℕ → ℕ
hits k a zero = 0
hits k a (suc n) = cond (k == a) 1 0 + hits k (a + 1) n

no_hits : (k a n : ℕ) → k < a → hits k a n ≡ 0
no_hits k a zero lt = refl
no_hits k a (suc n) lt =
    let rest = no_hits k (a + 1) n (omega arith) in
    let other : (k == a) ≡ false = ne_eqb k a (λ e. omega arith) in
    rw (other, rest) refl

one_hit : (k a n : ℕ) → hits k a n ≤ 1
one_hit k a zero = omega arith
one_hit k a (suc n) =
    elim (cases_eq k a) [
      | inl e ↦ let rest = no_hits k (a + 1) n (omega arith) in let here : (k == a) ≡ true = eq-eqb k a e in rw (here, rest) (omega arith)
      | inr ne ↦ let rest = one_hit k (a + 1) n in let here : (k == a) ≡ false = ne_eqb k a ne in rw here (omega arith)
    ]

-- how many entries lie in n chunks from a on
abbrev covered : (Entry → ℕ) → ℕ → ℕ → List Entry → ℕ
covered chunk a zero es = 0
covered chunk a (suc n) es = length (filter (λ e. chunk e == a) es) + covered chunk (a + 1) n es

covered_none : (chunk : Entry → ℕ) (a n : ℕ) → covered chunk a n [] ≡ 0
covered_none chunk a zero = refl
covered_none chunk a (suc n) = let rest = covered_none chunk (a + 1) n in omega arith

length_cond : (b : Bool) (e : Entry) (es : List Entry) → length (cond b (e ∷ es) es) ≡ cond b 1 0 + length es
length_cond true e es = omega arith
length_cond false e es = omega arith

covered_cons : (chunk : Entry → ℕ) (a n : ℕ) (e : Entry) (es : List Entry) → covered chunk a n (e ∷ es) ≡ hits (chunk e) a n + covered chunk a n es
covered_cons chunk a zero e es = refl
covered_cons chunk a (suc n) e es =
    let rest = covered_cons chunk (a + 1) n e es in
    let here = length_cond (chunk e == a) e (filter (λ x. chunk x == a) es) in
    omega arith

covered_le : (chunk : Entry → ℕ) (a n : ℕ) (es : List Entry) → covered chunk a n es ≤ length es
covered_le chunk a n [] = let none = covered_none chunk a n in omega arith
covered_le chunk a n (e ∷ es) =
    let rest = covered_le chunk a n es in
    let split = covered_cons chunk a n e es in
    let one = one_hit (chunk e) a n in
    omega arith

-- ---- cells

cells_of_chunks : (method : Method) (entries : List Entry) (f : Function) (a n : ℕ) (chunks : List Chunk) → AllZip (IsBuiltChunk method entries f) (range_with_len a n) chunks
    → (length chunks ≡ n) × (cell_count chunks ≤ 2 * covered (chunk_of_entry (length entries)) a n entries + 6 * n)
cells_of_chunks method entries f a zero [] all = (refl, omega arith)
cells_of_chunks method entries f a zero (c ∷ chunks) all = absurd all
cells_of_chunks method entries f a (suc n) [] all = absurd all
cells_of_chunks method entries f a (suc n) (c ∷ chunks) all =
    let (count, rest) = cells_of_chunks method entries f (a + 1) n chunks all.1 in
    let split = cell_count-cons c chunks in
    let here = all.0.segment in
    let most = few_cells method (length (chunk_entries entries a)) in
    (omega arith, omega arith)

-- the chunks, and their cells
pub cells_few : (method : Method) (entries : List Entry) (f : Function) (n : ℕ) (chunks : List Chunk) → AllZip (IsBuiltChunk method entries f) (range_with_len 0 n) chunks
    → (length chunks ≡ n) × (cell_count chunks ≤ 2 * length entries + 6 * n)
cells_few method entries f n chunks all =
    let (count, few) = cells_of_chunks method entries f 0 n chunks all in
    let le = covered_le (chunk_of_entry (length entries)) 0 n entries in
    (count, omega arith)

-- no more words than numbers of at most 64 bits
pub words_le : (n width : ℕ) → width ≤ 64 → words_for (n * width) ≤ n
words_le n width narrow =
    let most : n * width ≤ n * 64 = mul-le-mul_left n narrow in
    omega arith
