-- Entries of signatures and values, and their edges and equations.
use Rattle.std.proofs.Common.{◌≡◌, ℕ, zero, suc, ◌+◌, ◌<◌, ◌^◌, List, [], ◌∷◌, ◌++◌, length, map, take, get_or, refl, sym, ap, ◌∙◌, arith}
use Rattle.std.specs.List.{AllByRecursion}
use Rattle.std.proofs.lemmas.List.{map_more, take_all}
use Rattle.sx_spec.specs.declared.Edge.{Edge}
use Rattle.sx_spec.specs.declared.Equation.{Equation}
use Rattle.sx_spec.specs.declared.Signature.{Signature}
use Rattle.sx_spec.specs.Chunks.{places}
use Rattle.sx_spec.specs.StaticFunction.{Entry, signatures, entry_equation}
use Rattle.sx_spec.specs.Systems.{equation, unknowns, Solves}
use Rattle.sx_peel.specs.Peeling.{IsEdgeWithin}
use Rattle.sx_solve.specs.Solving.{IsEquationWithin}
use Rattle.sx_static.specs.Answer.{entries_of}
use Rattle.sx_static.specs.Solving.{IsMet}
use Rattle.sx_static.specs.Tries.{try_equations}

pub signatures_of_entries : (sigs : List Signature) (values : List ℕ) → length values ≡ length sigs → signatures (entries_of sigs values) ≡ sigs
signatures_of_entries [] values same = refl
signatures_of_entries (sig ∷ sigs) [] same = absurd (omega arith)
signatures_of_entries (sig ∷ sigs) (v ∷ values) same = ap (λ xs. sig ∷ xs) (signatures_of_entries sigs values (omega arith))

pub length_of_entries : (sigs : List Signature) (values : List ℕ) → length values ≡ length sigs → length (entries_of sigs values) ≡ length sigs
length_of_entries [] values same = refl
length_of_entries (sig ∷ sigs) [] same = absurd (omega arith)
length_of_entries (sig ∷ sigs) (v ∷ values) same = ap suc (length_of_entries sigs values (omega arith))

entry_at : (sigs : List Signature) (values : List ℕ) (i : ℕ) (c : Signature) (d : ℕ) (e : Entry) → length values ≡ length sigs → i < length sigs → get_or (entries_of sigs values) i e ≡ (get_or sigs i c, get_or values i d)
entry_at [] values i c d e same inside = absurd (omega arith)
entry_at (sig ∷ sigs) [] i c d e same inside = absurd (omega arith)
entry_at (sig ∷ sigs) (v ∷ values) zero c d e same inside = refl
entry_at (sig ∷ sigs) (v ∷ values) (suc i) c d e same inside = entry_at sigs values i c d e (omega arith) (omega arith)

-- ---- one after another

-- an edge more
pub edges_more : (s t : ℕ) (sigs : List Signature) (i : ℕ) (d : Signature) (edges : List Edge) (e : Edge) → i < length sigs → e ≡ places (get_or sigs i d) t s
    → edges ≡ map (λ sig. places sig t s) (take i sigs) → edges ++ e ∷ [] ≡ map (λ sig. places sig t s) (take (i + 1) sigs)
edges_more s t sigs i d edges e inside is same =
    ap (λ es. es ++ e ∷ []) same
    ∙ ap (λ f. map (λ sig. places sig t s) (take i sigs) ++ f ∷ []) is
    ∙ sym (map_more (λ sig. places sig t s) sigs i d inside)

-- an equation more
pub equations_more : (s t : ℕ) (sigs : List Signature) (values : List ℕ) (i : ℕ) (c : Signature) (d : ℕ) (equations : List Equation) (q : Equation) → length values ≡ length sigs → i < length sigs
    → q ≡ equation (places (get_or sigs i c) t s) (get_or values i d)
    → equations ≡ map (entry_equation t s) (take i (entries_of sigs values)) → equations ++ q ∷ [] ≡ map (entry_equation t s) (take (i + 1) (entries_of sigs values))
equations_more s t sigs values i c d equations q same inside is so_far =
    let entries = entries_of sigs values in
    let long = length_of_entries sigs values same in
    let here : q ≡ entry_equation t s (get_or entries i (c, d)) = is ∙ sym (ap (entry_equation t s) (entry_at sigs values i c d (c, d) same inside)) in
    ap (λ qs. qs ++ q ∷ []) so_far
    ∙ ap (λ r. map (entry_equation t s) (take i entries) ++ r ∷ []) here
    ∙ sym (map_more (entry_equation t s) entries i (c, d) (omega arith))

-- the equations of all
pub equations_whole : (s t : ℕ) (sigs : List Signature) (values : List ℕ) (i : ℕ) → length values ≡ length sigs → i ≡ length sigs
    → map (entry_equation t s) (take i (entries_of sigs values)) ≡ map (entry_equation t s) (entries_of sigs values)
equations_whole s t sigs values i same whole =
    let long = length_of_entries sigs values same in
    ap (map (entry_equation t s)) (take_all i (entries_of sigs values) (omega arith))

-- ---- edges and equations

-- the edges of the entries are those of the signatures
pub edges_of_entries : (s t : ℕ) (sigs : List Signature) (values : List ℕ) → length values ≡ length sigs
    → map unknowns (try_equations s t sigs values) ≡ map (λ sig. places sig t s) sigs
edges_of_entries s t [] values same = refl
edges_of_entries s t (sig ∷ sigs) [] same = absurd (omega arith)
edges_of_entries s t (sig ∷ sigs) (v ∷ values) same = ap (λ es. places sig t s ∷ es) (edges_of_entries s t sigs values (omega arith))

-- cells that meet each edge solve the equations
pub solved_entries : (s t : ℕ) (cells : List ℕ) (sigs : List Signature) (values : List ℕ) → length values ≡ length sigs
    → ((i : ℕ) → i < length sigs → IsMet (map (λ sig. places sig t s) sigs) values cells i)
    → Solves cells (try_equations s t sigs values)
solved_entries s t cells [] values same met = tt
solved_entries s t cells (sig ∷ sigs) [] same met = absurd (omega arith)
solved_entries s t cells (sig ∷ sigs) (v ∷ values) same met =
    (met 0 (omega arith), solved_entries s t cells sigs values (omega arith) (λ i h. met (suc i) (omega arith)))

-- equations are within a bound as their edges are
pub within_edges : (bound : ℕ) (equations : List Equation) → AllByRecursion (IsEdgeWithin bound) (map unknowns equations) → AllByRecursion (IsEquationWithin bound) equations
within_edges bound [] all = tt
within_edges bound (q ∷ equations) all =
    (record { a = all.0.a; b = all.0.b; c = all.0.c; ab = all.0.ab; ac = all.0.ac; bc = all.0.bc }, within_edges bound equations all.1)

-- values below a power of two are those of the equations
pub narrow_equations : (s t k : ℕ) (sigs : List Signature) (values : List ℕ) → AllByRecursion (λ v. v < 2 ^ k) values → AllByRecursion (λ q. q.value < 2 ^ k) (try_equations s t sigs values)
narrow_equations s t k [] values all = tt
narrow_equations s t k (sig ∷ sigs) [] all = tt
narrow_equations s t k (sig ∷ sigs) (v ∷ values) all = (all.0, narrow_equations s t k sigs values all.1)
