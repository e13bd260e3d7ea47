-- The first key that breaks a rule, where the keys before it break none.
use Rattle.std.proofs.Common.{◌≡◌, ℕ, zero, suc, ◌+◌, ◌-◌, ◌<◌, List, [], ◌∷◌, ◌++◌, length, take, drop, get_or, Bor, refl, sym, ap, subst, ◌∙◌, arith, Some, None}
use Rattle.std.specs.Prelude.{option_map}
use Rattle.std.specs.List.{filter_map, enumerate_from, cons_option}
use Rattle.std.proofs.lemmas.List.{take-append-le}
use Rattle.std.proofs.Math.Seq.{take-append_seam}
use Rattle.std.proofs.lemmas.List.Elements.{filter_map-append}
use Rattle.sx_spec.specs.declared.Limits.{Limits}
use Rattle.sx_spec_strings.specs.First.{first}
use Rattle.sx_spec.specs.Keys.{Reason, refusal, fault_at, key_faults, first_key_fault, AreKeys, standard_limits}
use Rattle.sux_c.specs.declared.keys.KeyStop.{KeyStop}
use Rattle.sux_c.specs.declared.keys.KeyStop.TheVariants.{Refused, Memory}
use Rattle.sux_c.specs.KeyFaults.{IsKeyStop, StopsAt, lines_of}

abbrev pub Text : Type 0
Text = List ℕ

enumerate_more : {X : Type 0} (n : ℕ) (xs ys : List X) → enumerate_from n (xs ++ ys) ≡ enumerate_from n xs ++ enumerate_from (n + length xs) ys
enumerate_more n [] ys = let e : n + 0 ≡ n = omega arith in rw e refl
enumerate_more n (x ∷ xs) ys =
    let e : n + 1 + length xs ≡ n + suc (length xs) = omega arith in
    ap (λ l. (n, x) ∷ l) (rw (← e) (enumerate_more (n + 1) xs ys))

-- a key's fault looks at the keys before it alone
same_faults : (limits : Limits) (all some : List Text) (n : ℕ) (xs : List Text) → ((i : ℕ) → i < length xs → take (n + i) all ≡ take (n + i) some)
    → filter_map (fault_at limits all) (enumerate_from (n + 1) xs) ≡ filter_map (fault_at limits some) (enumerate_from (n + 1) xs)
same_faults limits all some n [] same = refl
same_faults limits all some n (x ∷ xs) same =
    let back : n + 1 - 1 ≡ n = omega arith in
    let none : n + 0 ≡ n = omega arith in
    let front : take (n + 1 - 1) all ≡ take (n + 1 - 1) some = rw back (rw none at (same 0 (omega arith))) in
    let here : fault_at limits all (n + 1, x) ≡ fault_at limits some (n + 1, x) = ap (λ (ls : List Text). option_map (λ r. record { line = n + 1; reason = r }) (refusal limits ls x)) front in
    let rest = same_faults limits all some (n + 1) xs (λ i lt. let e : n + suc i ≡ n + 1 + i = omega arith in rw e at (same (suc i) (omega arith))) in
    ap (λ o. cons_option o (filter_map (fault_at limits all) (enumerate_from (n + 1 + 1) xs))) here ∙ ap (cons_option (fault_at limits some (n + 1, x))) rest

faults_before : (limits : Limits) (xs ys : List Text) → key_faults limits (xs ++ ys) ≡ key_faults limits xs ++ filter_map (fault_at limits (xs ++ ys)) (enumerate_from (1 + length xs) ys)
faults_before limits xs ys =
    ap (filter_map (fault_at limits (xs ++ ys))) (enumerate_more 1 xs ys)
    ∙ filter_map-append (fault_at limits (xs ++ ys)) (enumerate_from 1 xs) (enumerate_from (1 + length xs) ys)
    ∙ ap (λ l. l ++ filter_map (fault_at limits (xs ++ ys)) (enumerate_from (1 + length xs) ys))
    (same_faults limits (xs ++ ys) xs 0 xs (λ i lt. let e : 0 + i ≡ i = omega arith in rw e (take-append-le i xs ys (omega arith))))

-- a key that is refused behind faultless ones is the first that breaks a rule
pub first_fault_is : (keys : List Text) (line : Text) (more : List Text) (reason : Reason) → AreKeys standard_limits keys → refusal standard_limits keys line ≡ Some reason
    → first_key_fault standard_limits (keys ++ line ∷ more) ≡ Some (record { line = length keys + 1; reason = reason })
first_fault_is keys line more reason fine refused =
    let limits = standard_limits in
    let back : 1 + length keys - 1 ≡ length keys = omega arith in
    let front : take (1 + length keys - 1) (keys ++ line ∷ more) ≡ keys = rw back (take-append_seam keys (line ∷ more)) in
    let fault : fault_at limits (keys ++ line ∷ more) (1 + length keys, line) ≡ Some (record { line = 1 + length keys; reason = reason }) =
    ap (λ (ls : List Text). option_map (λ r. record { line = 1 + length keys; reason = r }) (refusal limits ls line)) front
    ∙ ap (option_map (λ r. record { line = 1 + length keys; reason = r })) refused in
    let e : 1 + length keys ≡ length keys + 1 = omega arith in
    let split : key_faults limits (keys ++ line ∷ more) ≡ record { line = 1 + length keys; reason = reason } ∷ filter_map (fault_at limits (keys ++ line ∷ more)) (enumerate_from (1 + length keys + 1) more) = faults_before limits keys (line ∷ more) ∙ rw (fine, fault) refl in
    ap first split ∙ ap (λ n. Some (record { line = n; reason = reason })) e

-- the keys before one, itself, and those behind it
cut_at : (keys : List (Bor (List ℕ))) (i : ℕ) (d : Bor (List ℕ)) → i < length keys → lines_of keys ≡ lines_of (take i keys) ++ (get_or keys i d).now ∷ lines_of (drop (suc i) keys)
cut_at [] i d lt = absurd (omega (arith, lt))
cut_at (k ∷ keys) zero d lt = refl
cut_at (k ∷ keys) (suc i) d lt = ap (λ (ls : List Text). k.now ∷ ls) (cut_at keys i d (omega (arith, lt)))

-- why a key isn't put behind those before it is why there is no list
pub stops : (keys : List (Bor (List ℕ))) (i : ℕ) (d : Bor (List ℕ)) (list : List Text) (stop : KeyStop) → list ≡ lines_of (take i keys) → i < length keys → AreKeys standard_limits list
    → StopsAt list (get_or keys i d).now stop → IsKeyStop (lines_of keys) stop
stops keys i d list Memory is lt valid why = tt
stops keys i d list (Refused number rule) is lt valid why =
    let line = (get_or keys i d).now in
    let more = lines_of (drop (suc i) keys) in
    let split : lines_of keys ≡ list ++ line ∷ more = cut_at keys i d lt ∙ ap (λ (ls : List Text). ls ++ line ∷ more) (sym is) in
    record {
      reason = why.reason;
      first = ap (first_key_fault standard_limits) split ∙ first_fault_is list line more why.reason valid why.refused
          ∙ ap (λ (n : ℕ). Some (record { line = n + 1; reason = why.reason })) (sym why.number_is);
      rule_is = why.rule_is;
    }
