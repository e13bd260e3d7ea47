-- Signatures whose edges are peeled differ; and what is told where no try works.
use Rattle.std.proofs.Common.{◌≡◌, ℕ, ◌+◌, ◌<◌, ◌≤◌, ◌^◌, Bool, true, false, cond, List, [], ◌∷◌, length, map, get_or, refl, sym, ap, subst, ◌∙◌, arith, zero-add, inl, inr, Some, Vec, Global}
use Rattle.std.specs.Prelude.{◌==◌, ◌||◌, slice_get, slice_index, AllPairs, Contains}
use Rattle.std.specs.Option.{option_map_or}
use Rattle.std.specs.List.{AllByRecursion, AllZip, cons_option, range_with_len}
use Rattle.std.proofs.lemmas.Bool.{eq-eqb, cases_lt}
use Rattle.std.proofs.lemmas.List.{length-map, get_or-map, get_or_default}
use Rattle.std.proofs.lemmas.List.Elements.{All-from_recursion}
use Rattle.std.proofs.lemmas.List.FromFn.{get_or-map-range_with_len}
use Rattle.std.proofs.lemmas.List.Sums.{sum_by-cons}
use Rattle.std.proofs.lemmas.Option.{slice_get-get_or}
use Rattle.sx_spec_strings.proofs.Lists.{along_range}
use Rattle.sx_spec.specs.declared.Edge.{Edge}
use Rattle.sx_spec.specs.declared.Method.{Method}
use Rattle.sx_spec.specs.declared.Method.TheVariants.{Mwhc, Gov3}
use Rattle.sx_spec.specs.declared.Signature.{Signature}
use Rattle.sx_spec.specs.Chunks.{chunk_bits, places, segment}
use Rattle.sx_spec.specs.StaticFunction.{AllDiffer, AreTwins, CanBeBuilt, IsStuck, equations}
use Rattle.sx_spec.specs.Systems.{chosen, degree, has_vertex, vertices, HasNoLeaf, IsCore, IsPeelable}
use Rattle.sx_spec.proofs.Cores.{cores_refute_peeling}
use Rattle.sx_sig.specs.Grouping.{GathersEqual, chunk_numbers, sig_at}
use Rattle.sx_sig.proofs.EqualPairs.{all_differ}
use Rattle.sx_sig.proofs.Groups.{lists_count}
use Rattle.sx_static.specs.Answer.{IsAnswer, IsWitnessOf, entries_of, witness_numbers}
use Rattle.sx_static.specs.Chunks.{Found, IsFound, IsToldOf}
use Rattle.sx_static.specs.declared.Built.{Built}
use Rattle.sx_static.specs.declared.Built.TheVariants.{Done, Twins, Stuck}
use Rattle.sx_static.specs.declared.Witness.{Witness}
use Rattle.sx_static.proofs.Entries.{edges_of_entries, signatures_of_entries}
use Rattle.sx_static.proofs.Numbers.{chosen_at, length_chosen, numbers_rise, numbers_within}
use Rattle.sx_static.proofs.Wholes.{equations_are}

-- ---- two equal edges

-- an edge twice
twice : (v : ℕ) (e : Edge) → has_vertex v e ≡ true → 2 ≤ degree v (e ∷ e ∷ [])
twice v e on =
    let count : Edge → ℕ = λ d. cond (has_vertex v d) 1 0 in
    let a = sum_by-cons count e (e ∷ []) in
    let b = sum_by-cons count e [] in
    let one : count e ≡ 1 = ap (λ b. cond b 1 0) on in
    omega arith

or_true : (b : Bool) → (b || true) ≡ true
or_true true = refl
or_true false = refl

self : (n : ℕ) → (n == n) ≡ true
self n = eq-eqb n n refl

on_a : (e : Edge) → has_vertex e.a e ≡ true
on_a e = ap (λ b. b || (e.b == e.a || e.c == e.a)) (self e.a)

on_b : (e : Edge) → has_vertex e.b e ≡ true
on_b e = ap (λ b. e.a == e.b || (b || e.c == e.b)) (self e.b) ∙ or_true (e.a == e.b)

on_c : (e : Edge) → has_vertex e.c e ≡ true
on_c e = ap (λ b. e.a == e.c || (e.b == e.c || b)) (self e.c) ∙ ap (λ b. e.a == e.c || b) (or_true (e.b == e.c)) ∙ or_true (e.a == e.c)

no_leaf : (e : Edge) → HasNoLeaf (e ∷ e ∷ [])
no_leaf e =
    let here : AllByRecursion (λ v. 2 ≤ degree v (e ∷ e ∷ [])) (vertices e) = (twice e.a e (on_a e), (twice e.b e (on_b e), (twice e.c e (on_c e), tt))) in
    (here, (here, tt))

-- two equal edges are a core
equal_core : (edges : List Edge) (p q : ℕ) (e : Edge) → p < q → q < length edges → slice_get edges p ≡ Some e → slice_get edges q ≡ Some e → IsCore edges (p ∷ q ∷ [])
equal_core edges p q e less inside first second =
    let both : chosen edges (p ∷ q ∷ []) ≡ e ∷ e ∷ [] = ap (λ o. cons_option o (chosen edges (q ∷ []))) first ∙ ap (λ o. e ∷ cons_option o []) second in
    record {
      set = record {
        rising = λ k h. (let none : k ≡ 0 = omega arith in subst (λ n. slice_index (p ∷ q ∷ []) n < slice_index (p ∷ q ∷ []) (n + 1)) (sym none) less);
        within = (omega arith, (inside, tt));
        nonempty = omega arith;
      };
      core = subst HasNoLeaf (sym both) (no_leaf e);
    }

-- edges that are peeled are those of signatures that differ
peeled_differ : (s t : ℕ) (sigs : List Signature) (p q : ℕ) (d : Signature) → IsPeelable (map (λ sig. places sig t s) sigs) → p < q → q < length sigs → get_or sigs p d ≡ get_or sigs q d → ⊥
peeled_differ s t sigs p q d peelable less inside same =
    let f : Signature → Edge = λ sig. places sig t s in
    let edges = map f sigs in
    let many : length edges ≡ length sigs = length-map sigs f in
    let e : Edge = f (get_or sigs q d) in
    let none : Edge = record { a = 0; b = 0; c = 0 } in
    let first : slice_get edges p ≡ Some e = slice_get-get_or edges p none (omega arith) ∙ ap (λ x. Some x) (get_or-map f sigs p d none (omega arith) ∙ ap f same) in
    let second : slice_get edges q ≡ Some e = slice_get-get_or edges q none (omega arith) ∙ ap (λ x. Some x) (get_or-map f sigs q d none inside) in
    cores_refute_peeling edges (p ∷ q ∷ []) (equal_core edges p q e less (omega arith) first second) peelable

-- ---- signatures of a chunk

chosen_get : {X : Type 0} (xs : List X) (numbers : List ℕ) (k : ℕ) (d : X) → AllByRecursion (λ i. i < length xs) numbers → k < length numbers → slice_index numbers k < length xs
    → get_or (chosen xs numbers) k d ≡ get_or xs (slice_index numbers k) d
chosen_get xs numbers k d within inside below =
    let many = length_chosen xs numbers within in
    let a = slice_get-get_or (chosen xs numbers) k d (omega arith) in
    let b = slice_get-get_or xs (slice_index numbers k) d below in
    ap (λ o. option_map_or (λ x. x) o d) (sym a ∙ chosen_at xs numbers k within inside ∙ b)

-- signatures that differ do so in a chunk
pub chunk_differs : (sigs : List Signature) (values : List ℕ) → length values ≡ length sigs → (j : ℕ) (numbers : List ℕ) → numbers ≡ chunk_numbers (chunk_bits (length sigs)) sigs j
    → AllDiffer sigs → AllDiffer (chosen sigs numbers)
chunk_differs sigs values same j numbers are differ =
    let within : AllByRecursion (λ i. i < length sigs) numbers = subst (AllByRecursion (λ i. i < length sigs)) (sym are) (numbers_within sigs values same j) in
    let rise : AllPairs (λ x y. x < y) numbers = subst (AllPairs (λ x y. x < y)) (sym are) (numbers_rise sigs values same j) in
    let each = All-from_recursion (λ i. i < length sigs) numbers within in
    let many = length_chosen sigs numbers within in
    λ a b d less inside equal.
    let in_b : b < length numbers = omega arith in
    let low = each a 0 (omega arith) in
    let high = each b 0 in_b in
    differ (slice_index numbers a) (slice_index numbers b) d (rise a b 0 less in_b) high
    (sym (chosen_get sigs numbers a d within (omega arith) low) ∙ equal ∙ chosen_get sigs numbers b d within in_b high)

-- where all chunks' edges are peeled, all signatures differ
module _ (sigs : List Signature) (values : List ℕ) (same : length values ≡ length sigs) (lists : List (List ℕ)) (gathered : GathersEqual sigs lists) where
  -- equal ones don't stand together in a chunk whose edges are peeled
  apart : (k : ℕ) (numbers : List ℕ) → numbers ≡ chunk_numbers (chunk_bits (length sigs)) sigs k → (try : ℕ) → CanBeBuilt Mwhc (equations Mwhc (entries_of sigs values) k try)
      → (i j : ℕ) → i < j → sig_at sigs i ≡ sig_at sigs j → Contains numbers i → Contains numbers j → ⊥
  apart k numbers are try works i j less equal (p, in_p, at_p) (q, in_q, at_q) =
      let d : Signature = record { w0 = 0; w1 = 0; w2 = 0 } in
      let s = segment Mwhc (length numbers) in
      let own = chosen sigs numbers in
      let own_values = chosen values numbers in
      let within : AllByRecursion (λ i. i < length sigs) numbers = subst (AllByRecursion (λ i. i < length sigs)) (sym are) (numbers_within sigs values same k) in
      let within_values : AllByRecursion (λ i. i < length values) numbers = subst (λ n. AllByRecursion (λ i. i < n) numbers) (sym same) within in
      let each = All-from_recursion (λ i. i < length sigs) numbers within in
      let many = length_chosen sigs numbers within in
      let many_values = length_chosen values numbers within_values in
      let works_here = subst (CanBeBuilt Mwhc) (sym (equations_are Mwhc sigs values same k numbers are try)) works in
      let peelable : IsPeelable (map (λ sig. places sig try s) own) = subst IsPeelable (edges_of_entries s try own own_values (omega arith)) works_here in
      let p_is : slice_index numbers p ≡ i = get_or_default numbers p 0 i in_p ∙ at_p in
      let q_is : slice_index numbers q ≡ j = get_or_default numbers q 0 j in_q ∙ at_q in
      let at_i : get_or own p d ≡ sig_at sigs i = chosen_get sigs numbers p d within in_p (each p 0 in_p) ∙ ap (sig_at sigs) p_is in
      let at_j : get_or own q d ≡ sig_at sigs j = chosen_get sigs numbers q d within in_q (each q 0 in_q) ∙ ap (sig_at sigs) q_is in
      elim (cases_lt p q) [
        | inl before ↦ peeled_differ s try own p q d peelable before (omega arith) (at_i ∙ equal ∙ sym at_j)
        | inr after ↦ elim (cases_lt q p) [
          | inl behind ↦ peeled_differ s try own q p d peelable behind (omega arith) (at_j ∙ sym equal ∙ sym at_i)
          | inr not_behind ↦
              let one : p ≡ q = omega arith in
              let e : slice_index numbers p ≡ slice_index numbers q = ap (slice_index numbers) one in
              absurd (omega arith)
        ]
      ]

  pub all_apart : lists ≡ map (chunk_numbers (chunk_bits (length sigs)) sigs) (range_with_len 0 (2 ^ chunk_bits (length sigs)))
      → (found : List Found) → AllZip (IsFound Mwhc (entries_of sigs values)) (range_with_len 0 (2 ^ chunk_bits (length sigs))) found → AllDiffer sigs
  all_apart are found each = all_differ sigs (length sigs) (omega arith) (λ i j less inside equal.
      let bits = chunk_bits (length sigs) in
      let t = gathered.together i j less inside equal in
      let k = t.list in
      let count = lists_count bits (2 ^ bits) sigs lists are in
      let below = t.within in
      let lt : k < 2 ^ bits = omega arith in
      let list : get_or lists k [] ≡ chunk_numbers bits sigs k = ap (λ (l : List (List ℕ)). get_or l k []) are ∙ get_or-map-range_with_len (chunk_numbers bits sigs) 0 (2 ^ bits) k k [] lt (omega arith) in
      let (g, is) = along_range (IsFound Mwhc (entries_of sigs values)) 0 (2 ^ bits) found each k lt in
      let here : IsFound Mwhc (entries_of sigs values) k g = subst (λ n. IsFound Mwhc (entries_of sigs values) n g) (zero-add k) is in
      absurd (apart k (get_or lists k []) list g.chunk.try here.try.works i j less equal t.first t.second))

-- ---- what is told

-- what is told where no try works for a chunk
pub told : (method : Method) (width : ℕ) (sigs : List Signature) (values : List ℕ) → length values ≡ length sigs → (chunk : ℕ) (witnesses : Vec Witness Global)
    → (AllDiffer sigs → IsStuck method 64 (entries_of sigs values) chunk (map witness_numbers witnesses.items) × AllByRecursion (IsWitnessOf method) witnesses.items)
    → (b : Built) → IsToldOf sigs chunk witnesses b → IsAnswer method 64 width (entries_of sigs values) b
told method width sigs values same chunk witnesses stuck (Done f) t = absurd t
told method width sigs values same chunk witnesses stuck (Twins first second) t = subst (λ s. AreTwins s first second) (sym (signatures_of_entries sigs values same)) t
told method width sigs values same chunk witnesses stuck (Stuck j each) (differ, chunk_is, each_are) =
    subst (λ (k : ℕ). IsStuck method 64 (entries_of sigs values) k (map witness_numbers each.items) × AllByRecursion (IsWitnessOf method) each.items) (sym chunk_is)
    (subst (λ (ws : Vec Witness Global). IsStuck method 64 (entries_of sigs values) chunk (map witness_numbers ws.items) × AllByRecursion (IsWitnessOf method) ws.items) (sym each_are) (stuck differ))

-- all signatures differ where every chunk was built
pub built_differ : (method : Method) (sigs : List Signature) (values : List ℕ) → length values ≡ length sigs → (lists : List (List ℕ)) → GathersEqual sigs lists
    → lists ≡ map (chunk_numbers (chunk_bits (length sigs)) sigs) (range_with_len 0 (2 ^ chunk_bits (length sigs)))
    → (method ≡ Gov3 → AllDiffer sigs)
    → (found : List Found) → AllZip (IsFound method (entries_of sigs values)) (range_with_len 0 (2 ^ chunk_bits (length sigs))) found → AllDiffer sigs
built_differ Mwhc sigs values same lists gathered are differ found each = all_apart sigs values same lists gathered are found each
built_differ Gov3 sigs values same lists gathered are differ found each = differ refl
