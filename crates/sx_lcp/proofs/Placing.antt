-- Where a value stands in a table, its code by this place, and the escaped values by the codes.
use Rattle.std.proofs.Common.{◌≡◌, ℕ, suc, ◌+◌, ◌-◌, ◌^◌, ◌<◌, ◌≤◌, ◌==◌, Bool, true, false, List, [], ◌∷◌, ◌++◌, length, map, take, drop, get_or, refl, sym, ap, ◌∙◌, arith, inl, inr, Option, Some, None, unwrap_or, if◌then◌else◌}
use Rattle.std.specs.Prelude.{filter}
use Rattle.std.specs.List.{enumerate_from, list_any, position_or_len}
use Rattle.std.specs.Option.{option_or, option_map}
use Rattle.std.proofs.lemmas.Bool.{cases_Bool, eq-eqb, ne_eqb}
use Rattle.std.proofs.lemmas.List.{append-nil, append_assoc, drop_all, drop_more, length-take-le, take_more}
use Rattle.sx_spec_kinds.specs.TwoStep.{TwoStep, is_escaped, code_of, table_of, bits_of, two_step_of}
use Rattle.sx_spec_kinds.proofs.TwoStepLaws.{code_leads_back, length-table_of}
use Rattle.sx_lcp.specs.Rankings.{place_in, numbers_from}

-- ---- places

pub place_none : (q : ℕ) → place_in [] q ≡ None
unfolding place_in
place_none q = refl

place_cons : (x : ℕ) (xs : List ℕ) (q : ℕ) → place_in (x ∷ xs) q ≡ (if x == q then Some 0 else option_map suc (place_in xs q))
unfolding place_in
place_cons x xs q =
    elim (cases_Bool (x == q)) [
      | inl same ↦ rw same refl
      | inr differ ↦
          elim (cases_Bool (list_any (λ u. u == q) xs)) [
            | inl there ↦
                let e : 1 + position_or_len (λ u. u == q) xs ≡ suc (position_or_len (λ u. u == q) xs) = omega arith in
                rw (differ, there) (ap (λ (n : ℕ). Some n) e)
            | inr none ↦ rw (differ, none) refl
          ]
    ]

map_or : (o : Option ℕ) (b : Bool) (n : ℕ) → option_map suc (option_or o (if b then Some n else None)) ≡ option_or (option_map suc o) (if b then Some (suc n) else None)
map_or None true n = refl
map_or None false n = refl
map_or (Some p) b n = refl

place_push : (xs : List ℕ) (y q : ℕ) → place_in (xs ++ y ∷ []) q ≡ option_or (place_in xs q) (if y == q then Some (length xs) else None)
place_push [] y q =
    let none = place_none q in
    elim (cases_Bool (y == q)) [
      | inl same ↦ rw (place_cons y [] q, none, same) refl
      | inr differ ↦ rw (place_cons y [] q, none, differ) refl
    ]
place_push (x ∷ xs) y q =
    let whole = place_cons x (xs ++ y ∷ []) q in
    let part = place_cons x xs q in
    let rest = place_push xs y q in
    elim (cases_Bool (x == q)) [
      | inl same ↦ rw (whole, part, same) refl
      | inr differ ↦ rw (whole, part, differ, rest) (map_or (place_in xs q) (y == q) (length xs))
    ]

-- one more value of the table
pub place_more : (xs : List ℕ) (i q : ℕ) → i < length xs → place_in (take (i + 1) xs) q ≡ option_or (place_in (take i xs) q) (if get_or xs i 0 == q then Some i else None)
place_more xs i q lt =
    let size : length (take i xs) ≡ i = length-take-le i xs (omega arith) in
    ap (λ (l : List ℕ). place_in l q) (take_more xs i 0 lt)
    ∙ place_push (take i xs) (get_or xs i 0) q
    ∙ ap (λ n. option_or (place_in (take i xs) q) (if get_or xs i 0 == q then Some n else None)) size

-- ---- codes

-- a value's code by its place
pub code_by_place : (table : List ℕ) (bits v : ℕ) → unwrap_or (place_in table v) (2 ^ bits - 1) ≡ code_of table bits v
unfolding place_in code_of
code_by_place table bits v =
    elim (cases_Bool (list_any (λ u. u == v) table)) [
      | inl there ↦ rw there refl
      | inr none ↦ rw none refl
    ]

code_escaped : (table : List ℕ) (bits v : ℕ) → is_escaped table v ≡ true → code_of table bits v ≡ 2 ^ bits - 1
unfolding code_of
code_escaped table bits v h = rw h refl

code_is_last : (table : List ℕ) (bits v : ℕ) → length table ≤ 2 ^ bits - 1 → (code_of table bits v == 2 ^ bits - 1) ≡ is_escaped table v
code_is_last table bits v small =
    elim (cases_Bool (is_escaped table v)) [
      | inl escaped ↦ eq-eqb (code_of table bits v) (2 ^ bits - 1) (code_escaped table bits v escaped) ∙ sym escaped
      | inr own ↦
          let less = (code_leads_back table bits v own).0 in
          ne_eqb (code_of table bits v) (2 ^ bits - 1) (λ e. omega arith) ∙ sym own
    ]

-- the numbers of the last codes are those of the escaped values
pub numbers_are : (table : List ℕ) (bits first : ℕ) (values : List ℕ) → length table ≤ 2 ^ bits - 1
    → numbers_from (2 ^ bits - 1) first (map (code_of table bits) values) ≡ map (λ (i, v). i) (filter (λ (i, v). is_escaped table v) (enumerate_from first values))
unfolding numbers_from
numbers_are table bits first [] small = refl
numbers_are table bits first (v ∷ values) small =
    let is = code_is_last table bits v small in
    let rest = numbers_are table bits (first + 1) values small in
    elim (cases_Bool (is_escaped table v)) [
      | inl escaped ↦ rw (is, escaped) (ap (λ (l : List ℕ). first ∷ l) rest)
      | inr own ↦ rw (is, own) rest
    ]

-- ---- the numbers of the last codes, code by code

pub numbers_step : (last i : ℕ) (codes held more whole : List ℕ) → i < length codes → held ++ numbers_from last i (drop i codes) ≡ whole → more ≡ held ++ (if get_or codes i 0 == last then i ∷ [] else []) → more ++ numbers_from last (i + 1) (drop (i + 1) codes) ≡ whole
unfolding numbers_from
numbers_step last i codes held more whole lt so_far is =
    let rest = drop_more codes i 0 lt in
    let here : numbers_from last i (drop i codes) ≡ (if get_or codes i 0 == last then i ∷ [] else []) ++ numbers_from last (i + 1) (drop (i + 1) codes) = ap (numbers_from last i) rest in
    ap (λ (l : List ℕ). l ++ numbers_from last (i + 1) (drop (i + 1) codes)) is
    ∙ append_assoc held (if get_or codes i 0 == last then i ∷ [] else []) (numbers_from last (i + 1) (drop (i + 1) codes))
    ∙ ap (λ (l : List ℕ). held ++ l) (sym here)
    ∙ so_far

pub numbers_end : (last i : ℕ) (codes held whole : List ℕ) → length codes ≤ i → held ++ numbers_from last i (drop i codes) ≡ whole → held ≡ whole
unfolding numbers_from
numbers_end last i codes held whole past so_far =
    let none : numbers_from last i (drop i codes) ≡ [] = ap (numbers_from last i) (drop_all i codes past) in
    sym (append-nil held) ∙ ap (λ (l : List ℕ). held ++ l) (sym none) ∙ so_far

-- ---- the whole

-- codes by the table, and their last ones, are the two-step codes
pub two_step_is : (values : List ℕ) (t : TwoStep) → t.bits ≡ bits_of values → t.table ≡ table_of values t.bits → t.codes ≡ map (code_of t.table t.bits) values → t.escaped ≡ numbers_from (2 ^ t.bits - 1) 0 t.codes → t ≡ two_step_of values
unfolding two_step_of
two_step_is values t bits table codes escaped =
    let b = bits_of values in
    let own = table_of values b in
    let q : t.table ≡ own = table ∙ ap (table_of values) bits in
    let r : t.codes ≡ map (code_of own b) values =
    codes ∙ ap (λ (l : List ℕ). map (code_of l t.bits) values) q ∙ ap (λ n. map (code_of own n) values) bits in
    let s : t.escaped ≡ map (λ (i, v). i) (filter (λ (i, v). is_escaped own v) (enumerate_from 0 values)) =
    escaped ∙ ap (λ n. numbers_from (2 ^ n - 1) 0 t.codes) bits ∙ ap (numbers_from (2 ^ b - 1) 0) r ∙ numbers_are own b 0 values (length-table_of values b) in
    λ i. record { bits = bits i; table = q i; codes = r i; escaped = s i }
