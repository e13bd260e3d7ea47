-- The numbers of signatures by chunk, one signature more.
use Rattle.std.proofs.Common.{◌≡◌, ◌≢◌, ℕ, zero, suc, ◌+◌, ◌<◌, Bool, true, false, List, [], ◌∷◌, ◌++◌, length, map, replicate, take, refl, sym, ap, subst, ◌∙◌, Contains, arith, inl, inr, get_or, set, cond, All, Vec}
use Rattle.std.specs.Prelude.{◌==◌, filter}
use Rattle.std.specs.List.{enumerate_from, range_with_len}
use Rattle.std.proofs.lemmas.Bool.{cases_eq, eq-eqb, ne_eqb}
use Rattle.std.proofs.lemmas.List.{append-nil, map-append, map-set, get_or-map, length-take-le, length-set, take_more, get_or-set_same, get_or-set_other, ext_get_or}
use Rattle.std.proofs.lemmas.List.Elements.{filter-append, All-map, All-filter}
use Rattle.std.proofs.lemmas.List.FromFn.{get_or-map-range_with_len, length-map-range_with_len, length-enumerate_from, get_or-enumerate_from}
use Rattle.sx_spec.specs.declared.Signature.{Signature}
use Rattle.sx_spec.specs.Chunks.{chunk_of}
use Rattle.sx_sig.specs.Grouping.{chunk_numbers}

-- one element more
enumerate_push : {X : Type 0} (n : ℕ) (xs : List X) (x : X) → enumerate_from n (xs ++ x ∷ []) ≡ enumerate_from n xs ++ (n + length xs, x) ∷ []
enumerate_push {X} n [] x = let e : n ≡ n + 0 = omega arith in ap (λ (k : ℕ). let p : ℕ × X = (k, x) in p ∷ []) e
enumerate_push {X} n (y ∷ xs) x =
    let e : n + 1 + length xs ≡ n + suc (length xs) = omega arith in
    let rest = enumerate_push (n + 1) xs x in
    ap (λ (l : List (ℕ × X)). (n, y) ∷ l) (rest ∙ ap (λ (k : ℕ). enumerate_from (n + 1) xs ++ (k, x) ∷ []) e)

-- the number of one signature more, in its chunk
abbrev one_more : ℕ → Signature → ℕ → ℕ → List ℕ
one_more c sig i j = map (λ p. p.0) (filter (λ (p : ℕ × Signature). chunk_of p.1 c == j) ((i, sig) ∷ []))

chunk_push : (c : ℕ) (sigs : List Signature) (sig : Signature) (i j : ℕ) → length sigs ≡ i → chunk_numbers c (sigs ++ sig ∷ []) j ≡ chunk_numbers c sigs j ++ one_more c sig i j
chunk_push c sigs sig i j long =
    let test : ℕ × Signature → Bool = λ p. chunk_of p.1 c == j in
    let number : ℕ × Signature → ℕ = λ p. p.0 in
    ap (λ (l : List (ℕ × Signature)). map number (filter test l)) (enumerate_push 0 sigs sig)
    ∙ ap (map number) (filter-append test (enumerate_from 0 sigs) ((0 + length sigs, sig) ∷ []))
    ∙ map-append number (filter test (enumerate_from 0 sigs)) (filter test ((0 + length sigs, sig) ∷ []))
    ∙ ap (λ (k : ℕ). chunk_numbers c sigs j ++ one_more c sig k j) (let e : 0 + length sigs ≡ i = omega arith in e)

one_here : (c : ℕ) (sig : Signature) (i j : ℕ) → chunk_of sig c ≡ j → one_more c sig i j ≡ i ∷ []
one_here c sig i j here = let t : (chunk_of sig c == j) ≡ true = eq-eqb (chunk_of sig c) j here in ap (λ (b : Bool). map (λ (p : ℕ × Signature). p.0) (cond b ((i, sig) ∷ []) [])) t

one_elsewhere : (c : ℕ) (sig : Signature) (i j : ℕ) → (chunk_of sig c ≡ j → ⊥) → one_more c sig i j ≡ []
one_elsewhere c sig i j other = let t : (chunk_of sig c == j) ≡ false = ne_eqb (chunk_of sig c) j other in ap (λ (b : Bool). map (λ (p : ℕ × Signature). p.0) (cond b ((i, sig) ∷ []) [])) t

-- a list of lists by number, where one of them has a number more
put_more : (f g : ℕ → List ℕ) (n place number : ℕ) → place < n → g place ≡ f place ++ number ∷ [] → ((k : ℕ) → k ≢ place → g k ≡ f k)
    → set (map f (range_with_len 0 n)) place (get_or (map f (range_with_len 0 n)) place [] ++ number ∷ []) ≡ map g (range_with_len 0 n)
put_more f g n place number lt here others =
    let lists = map f (range_with_len 0 n) in
    let whole : length lists ≡ n = length-map-range_with_len f 0 n in
    let a = length-set lists place (get_or lists place [] ++ number ∷ []) in
    let b : length (map g (range_with_len 0 n)) ≡ n = length-map-range_with_len g 0 n in
    let inside : place < length lists = omega arith in
    ext_get_or [] (set lists place (get_or lists place [] ++ number ∷ [])) (map g (range_with_len 0 n)) (omega arith) (λ k kl.
    let kn : k < n = omega arith in
    let right : get_or (map g (range_with_len 0 n)) k [] ≡ g k = get_or-map-range_with_len g 0 n k k [] kn (omega arith) in
    elim (cases_eq k place) [
      | inl same ↦
          ap (λ (m : ℕ). get_or (set lists place (get_or lists place [] ++ number ∷ [])) m []) same
          ∙ get_or-set_same lists place (get_or lists place [] ++ number ∷ []) [] inside
          ∙ ap (λ (l : List ℕ). l ++ number ∷ []) (get_or-map-range_with_len f 0 n place place [] lt (omega arith))
          ∙ sym here ∙ ap g (sym same) ∙ sym right
      | inr other ↦
          get_or-set_other lists place k (get_or lists place [] ++ number ∷ []) [] other
          ∙ get_or-map-range_with_len f 0 n k k [] kn (omega arith) ∙ sym (others k other) ∙ sym right
    ])

-- the number of one signature more goes last into the list of its chunk
pub number_put : (c n : ℕ) (sigs : List Signature) (lists : List (List ℕ)) (i place : ℕ) (sig : Signature) → i < length sigs → sig ≡ get_or sigs i sig → place ≡ chunk_of sig c → place < n
    → lists ≡ map (chunk_numbers c (take i sigs)) (range_with_len 0 n)
    → set lists place (get_or lists place [] ++ i ∷ []) ≡ map (chunk_numbers c (take (i + 1) sigs)) (range_with_len 0 n)
number_put c n sigs lists i place sig lt is here inside so_far =
    let front = take i sigs in
    let long : length front ≡ i = length-take-le i sigs (omega arith) in
    let whole : take (i + 1) sigs ≡ front ++ sig ∷ [] = take_more sigs i sig lt ∙ ap (λ (s : Signature). front ++ s ∷ []) (sym is) in
    ap (λ (l : List (List ℕ)). set l place (get_or l place [] ++ i ∷ [])) so_far
    ∙ put_more (chunk_numbers c front) (chunk_numbers c (front ++ sig ∷ [])) n place i inside
    (chunk_push c front sig i place long ∙ ap (λ (l : List ℕ). chunk_numbers c front place ++ l) (one_here c sig i place (sym here)))
    (λ k other. chunk_push c front sig i k long ∙ ap (λ (l : List ℕ). chunk_numbers c front k ++ l) (one_elsewhere c sig i k (λ e. other (sym e ∙ sym here))) ∙ append-nil (chunk_numbers c front k))
    ∙ ap (λ (s : List Signature). map (chunk_numbers c s) (range_with_len 0 n)) (sym whole)

-- a write through one of the vectors
pub put_is : {W : Type 0} (lists : List (Vec ℕ W)) (place number : ℕ) (old new : Vec ℕ W) → place < length lists → old ≡ get_or lists place old → new.items ≡ old.items ++ number ∷ []
    → map (λ u. u.items) (set lists place new) ≡ set (map (λ u. u.items) lists) place (get_or (map (λ u. u.items) lists) place [] ++ number ∷ [])
put_is {W} lists place number old new lt is pushed =
    let items : Vec ℕ W → List ℕ = λ u. u.items in
    map-set items lists place new
    ∙ ap (λ (l : List ℕ). set (map items lists) place l) (pushed ∙ ap (λ (l : List ℕ). l ++ number ∷ []) (ap items is ∙ sym (get_or-map items lists place old [] lt)))

-- no numbers in any list
pub none_put : (c n : ℕ) → replicate n [] ≡ map (chunk_numbers c []) (range_with_len 0 n)
none_put c n = empty 0 n
  where
    empty : (a n : ℕ) → replicate n [] ≡ map (chunk_numbers c []) (range_with_len a n)
    empty a zero = refl
    empty a (suc n) = ap (λ (l : List (List ℕ)). [] ∷ l) (empty (a + 1) n)

-- ---- which numbers a list holds

in_tail : (xs : List ℕ) (y x : ℕ) → Contains xs x → Contains (y ∷ xs) x
in_tail xs y x (k, lt, is) = (suc k, omega arith, is)

in_cond : (b : Bool) (xs : List ℕ) (y x : ℕ) → Contains xs x → Contains (cond b (y ∷ xs) xs) x
in_cond true xs y x here = in_tail xs y x here
in_cond false xs y x here = here

abbrev numbers_of : (Signature → Bool) → ℕ → List Signature → List ℕ
numbers_of test n sigs = map (λ p. p.0) (filter (λ p. test p.1) (enumerate_from n sigs))

map_cond : (b : Bool) (n : ℕ) (sig : Signature) (rest : List (ℕ × Signature)) → map (λ p. p.0) (cond b ((n, sig) ∷ rest) rest) ≡ cond b (n ∷ map (λ p. p.0) rest) (map (λ p. p.0) rest)
map_cond true n sig rest = refl
map_cond false n sig rest = refl

holds : (test : Signature → Bool) (n : ℕ) (sigs : List Signature) (i : ℕ) (d : Signature) → i < length sigs → test (get_or sigs i d) ≡ true → Contains (numbers_of test n sigs) (n + i)
holds test n [] i d lt passes = absurd (omega arith)
holds test n (x ∷ sigs) zero d lt passes =
    let rest = filter (λ (p : ℕ × Signature). test p.1) (enumerate_from (n + 1) sigs) in
    let is : numbers_of test n (x ∷ sigs) ≡ n ∷ map (λ p. p.0) rest = map_cond (test x) n x rest ∙ ap (λ b. cond b (n ∷ map (λ p. p.0) rest) (map (λ p. p.0) rest)) passes in
    let e : n + 0 ≡ n = omega arith in
    rw (is, e) (0, omega arith, refl)
holds test n (x ∷ sigs) (suc i) d lt passes =
    let rest = filter (λ (p : ℕ × Signature). test p.1) (enumerate_from (n + 1) sigs) in
    let here : Contains (map (λ p. p.0) rest) (n + 1 + i) = holds test (n + 1) sigs i d (omega arith) passes in
    let e : n + suc i ≡ n + 1 + i = omega arith in
    rw (map_cond (test x) n x rest, e) (in_cond (test x) (map (λ p. p.0) rest) n (n + 1 + i) here)

-- a chunk's list holds the number of each of its signatures
pub number_in : (c : ℕ) (sigs : List Signature) (i j : ℕ) (d : Signature) → i < length sigs → chunk_of (get_or sigs i d) c ≡ j → Contains (chunk_numbers c sigs j) i
number_in c sigs i j d lt here =
    let e : 0 + i ≡ i = omega arith in
    let P : ℕ → Type 0 = λ k. Contains (chunk_numbers c sigs j) k in
    subst P e (holds (λ sig. chunk_of sig c == j) 0 sigs i d lt (eq-eqb (chunk_of (get_or sigs i d) c) j here))

-- each number is below the number of signatures
pub number_below : (c : ℕ) (sigs : List Signature) (j : ℕ) → All (λ n. n < length sigs) (chunk_numbers c sigs j)
number_below c sigs j =
    let P : ℕ → Type 0 = λ n. n < length sigs in
    let Q : ℕ × Signature → Type 0 = λ p. p.0 < length sigs in
    let test : ℕ × Signature → Bool = λ p. chunk_of p.1 c == j in
    let all : All Q (enumerate_from 0 sigs) = λ k d lt. (let e = ap (λ (p : ℕ × Signature). p.0) (get_or-enumerate_from 0 sigs k d (let g = length-enumerate_from 0 sigs in omega arith)) in let g = length-enumerate_from 0 sigs in omega arith) in
    All-map P (λ (p : ℕ × Signature). p.0) (filter test (enumerate_from 0 sigs)) (All-filter test Q (enumerate_from 0 sigs) all)

-- so many lists
pub lists_count : (c n : ℕ) (sigs : List Signature) (lists : List (List ℕ)) → lists ≡ map (chunk_numbers c sigs) (range_with_len 0 n) → length lists ≡ n
lists_count c n sigs lists are = ap (λ (l : List (List ℕ)). length l) are ∙ length-map-range_with_len (chunk_numbers c sigs) 0 n
