-- The first faulty line of keys and of queries, where the lines before it are known to be fine.
use Rattle.std.proofs.Common.{◌≡◌, ℕ, suc, ◌+◌, ◌-◌, ◌<◌, ◌≤◌, true, false, List, [], ◌∷◌, ◌++◌, length, take, refl, ap, ◌∙◌, arith, Some, None}
use Rattle.std.specs.Prelude.{nat_lt, option_map}
use Rattle.std.specs.List.{filter_map, enumerate_from, cons_option, AllByRecursion}
use Rattle.std.proofs.lemmas.List.{take-append-le}
use Rattle.std.proofs.Math.Seq.{take-append_seam}
use Rattle.std.proofs.lemmas.Bool.{lt-ltb, le-ltb}
use Rattle.std.proofs.lemmas.List.Elements.{filter_map-append}
use Rattle.sx_spec.specs.declared.Limits.{Limits}
use Rattle.sx_spec_strings.specs.First.{first}
use Rattle.sx_spec.specs.Command.{Text}
use Rattle.sx_spec.specs.Keys.{Reason, too_long, refusal, fault_at, key_faults, first_key_fault, AreKeys}
use Rattle.sx_spec.specs.Messages.{long_query_text, many_queries_text}
use Rattle.sx_spec.specs.Outcomes.{QueryFault, query_refusal, first_query_fault, served, max_queries}

pub enumerate_from-append : {X : Type 0} (n : ℕ) (xs ys : List X) → enumerate_from n (xs ++ ys) ≡ enumerate_from n xs ++ enumerate_from (n + length xs) ys
enumerate_from-append n [] ys = let e : n + 0 ≡ n = omega arith in rw e refl
enumerate_from-append n (x ∷ xs) ys =
    let e : n + 1 + length xs ≡ n + suc (length xs) = omega arith in
    ap (λ l. (n, x) ∷ l) (rw (← e) (enumerate_from-append (n + 1) xs ys))

-- ---- keys

-- a line's fault looks at the lines before it alone
same_faults : (limits : Limits) (all some : List Text) (n : ℕ) (xs : List Text) → ((i : ℕ) → i < length xs → take (n + i) all ≡ take (n + i) some)
    → filter_map (fault_at limits all) (enumerate_from (n + 1) xs) ≡ filter_map (fault_at limits some) (enumerate_from (n + 1) xs)
same_faults limits all some n [] same = refl
same_faults limits all some n (x ∷ xs) same =
    let back : n + 1 - 1 ≡ n = omega arith in
    let none : n + 0 ≡ n = omega arith in
    let front : take (n + 1 - 1) all ≡ take (n + 1 - 1) some = rw back (rw none at (same 0 (omega arith))) in
    let here : fault_at limits all (n + 1, x) ≡ fault_at limits some (n + 1, x) = ap (λ (ls : List Text). option_map (λ r. record { line = n + 1; reason = r }) (refusal limits ls x)) front in
    let rest = same_faults limits all some (n + 1) xs (λ i lt. let e : n + suc i ≡ n + 1 + i = omega arith in rw e at (same (suc i) (omega arith))) in
    ap (λ o. cons_option o (filter_map (fault_at limits all) (enumerate_from (n + 1 + 1) xs))) here ∙ ap (cons_option (fault_at limits some (n + 1, x))) rest

-- the faults of lines with more lines behind them
faults_before : (limits : Limits) (xs ys : List Text) → key_faults limits (xs ++ ys) ≡ key_faults limits xs ++ filter_map (fault_at limits (xs ++ ys)) (enumerate_from (1 + length xs) ys)
faults_before limits xs ys =
    ap (filter_map (fault_at limits (xs ++ ys))) (enumerate_from-append 1 xs ys)
    ∙ filter_map-append (fault_at limits (xs ++ ys)) (enumerate_from 1 xs) (enumerate_from (1 + length xs) ys)
    ∙ ap (λ l. l ++ filter_map (fault_at limits (xs ++ ys)) (enumerate_from (1 + length xs) ys))
    (same_faults limits (xs ++ ys) xs 0 xs (λ i lt. let e : 0 + i ≡ i = omega arith in rw e (take-append-le i xs ys (omega arith))))

-- where the lines so far are keys, the next one's fault is that of its refusal
next_fault : (limits : Limits) (xs : List Text) (x : Text) (ys : List Text) → fault_at limits (xs ++ x ∷ ys) (1 + length xs, x) ≡ option_map (λ r. record { line = 1 + length xs; reason = r }) (refusal limits xs x)
next_fault limits xs x ys =
    let back : 1 + length xs - 1 ≡ length xs = omega arith in
    let front : take (1 + length xs - 1) (xs ++ x ∷ ys) ≡ xs = rw back (take-append_seam xs (x ∷ ys)) in
    ap (λ (ls : List Text). option_map (λ r. record { line = 1 + length xs; reason = r }) (refusal limits ls x)) front

-- a line that isn't refused is one more key
pub keys_grow : (limits : Limits) (keys : List Text) (line : Text) → AreKeys limits keys → refusal limits keys line ≡ None → AreKeys limits (keys ++ line ∷ [])
keys_grow limits keys line fine none =
    let fault : fault_at limits (keys ++ line ∷ []) (1 + length keys, line) ≡ None = next_fault limits keys line [] ∙ ap (option_map (λ r. record { line = 1 + length keys; reason = r })) none in
    faults_before limits keys (line ∷ []) ∙ rw (fine, fault) refl

-- a line that is refused is the first faulty one
pub first_fault_is : (limits : Limits) (keys : List Text) (line : Text) (more : List Text) (reason : Reason) → AreKeys limits keys → refusal limits keys line ≡ Some reason
    → first_key_fault limits (keys ++ line ∷ more) ≡ Some (record { line = length keys + 1; reason = reason })
first_fault_is limits keys line more reason fine refused =
    let fault : fault_at limits (keys ++ line ∷ more) (1 + length keys, line) ≡ Some (record { line = 1 + length keys; reason = reason }) = next_fault limits keys line more ∙ ap (option_map (λ r. record { line = 1 + length keys; reason = r })) refused in
    let e : 1 + length keys ≡ length keys + 1 = omega arith in
    let split : key_faults limits (keys ++ line ∷ more) ≡ record { line = 1 + length keys; reason = reason } ∷ filter_map (fault_at limits (keys ++ line ∷ more)) (enumerate_from (1 + length keys + 1) more) = faults_before limits keys (line ∷ more) ∙ rw (fine, fault) refl in
    ap first split ∙ ap (λ n. Some (record { line = n; reason = reason })) e

-- a line that is too long is refused for that
pub long_refused : (limits : Limits) (keys : List Text) (line : Text) → limits.max_line < length line → refusal limits keys line ≡ Some too_long
long_refused limits keys line long =
    let t : nat_lt limits.max_line (length line) ≡ true = lt-ltb limits.max_line (length line) long in
    rw t refl

-- ---- queries

-- a line of queries that isn't refused: short enough, and within the number of queries
query_fine : (limits : Limits) (n : ℕ) (line : Text) → length line ≤ limits.max_line → n ≤ max_queries → query_refusal limits (n, line) ≡ None
query_fine limits n line short few =
    let long : nat_lt limits.max_line (length line) ≡ false = le-ltb limits.max_line (length line) short in
    let many : nat_lt max_queries n ≡ false = le-ltb max_queries n few in
    rw (long, many) refl

pub queries_fine : (limits : Limits) (n : ℕ) (lines : List Text) → AllByRecursion (λ line. length line ≤ limits.max_line) lines → n + length lines ≤ max_queries
    → filter_map (query_refusal limits) (enumerate_from (n + 1) lines) ≡ []
queries_fine limits n [] short few = refl
queries_fine limits n (x ∷ lines) short few =
    let here = query_fine limits (n + 1) x short.0 (omega arith) in
    let rest = queries_fine limits (n + 1) lines short.1 (omega arith) in
    rw (here, rest) refl

-- short lines within the number of queries are all served
pub no_query_fault : (limits : Limits) (lines : List Text) → AllByRecursion (λ line. length line ≤ limits.max_line) lines → length lines ≤ max_queries → first_query_fault limits lines ≡ None
no_query_fault limits lines short few =
    ap first (queries_fine limits 0 lines short (omega arith))

pub all_served : (limits : Limits) (lines : List Text) → AllByRecursion (λ line. length line ≤ limits.max_line) lines → length lines ≤ max_queries → served limits lines ≡ lines
all_served limits lines short few = rw (no_query_fault limits lines short few) refl

-- after such lines the next one's refusal is the first
query_fault_is : (limits : Limits) (lines : List Text) (line : Text) (more : List Text) (fault : QueryFault) → AllByRecursion (λ l. length l ≤ limits.max_line) lines → length lines ≤ max_queries
    → query_refusal limits (length lines + 1, line) ≡ Some fault → first_query_fault limits (lines ++ line ∷ more) ≡ Some fault
query_fault_is limits lines line more fault short few refused =
    let e : length lines + 1 ≡ 1 + length lines = omega arith in
    let there : query_refusal limits (1 + length lines, line) ≡ Some fault = rw e at refused in
    let split : filter_map (query_refusal limits) (enumerate_from 1 (lines ++ line ∷ more)) ≡ filter_map (query_refusal limits) (enumerate_from 1 lines) ++ filter_map (query_refusal limits) (enumerate_from (1 + length lines) (line ∷ more))
    = ap (filter_map (query_refusal limits)) (enumerate_from-append 1 lines (line ∷ more)) ∙ filter_map-append (query_refusal limits) (enumerate_from 1 lines) (enumerate_from (1 + length lines) (line ∷ more)) in
    let all : filter_map (query_refusal limits) (enumerate_from 1 (lines ++ line ∷ more)) ≡ fault ∷ filter_map (query_refusal limits) (enumerate_from (1 + length lines + 1) more) = split ∙ rw (queries_fine limits 0 lines short (omega arith), there) refl in
    ap first all

-- a line that is too long
pub long_query_is : (limits : Limits) (lines : List Text) (line : Text) (more : List Text) → AllByRecursion (λ l. length l ≤ limits.max_line) lines → length lines ≤ max_queries → limits.max_line < length line
    → first_query_fault limits (lines ++ line ∷ more) ≡ Some (record { line = length lines + 1; text = long_query_text (length lines + 1) })
long_query_is limits lines line more short few long =
    let t : nat_lt limits.max_line (length line) ≡ true = lt-ltb limits.max_line (length line) long in
    query_fault_is limits lines line more _ short few (rw t refl)

-- a line that is one too many
pub many_queries_is : (limits : Limits) (lines : List Text) (line : Text) (more : List Text) → AllByRecursion (λ l. length l ≤ limits.max_line) lines → length lines ≡ max_queries → length line ≤ limits.max_line
    → first_query_fault limits (lines ++ line ∷ more) ≡ Some (record { line = length lines + 1; text = many_queries_text (length lines + 1) })
many_queries_is limits lines line more short full fits =
    let t : nat_lt limits.max_line (length line) ≡ false = le-ltb limits.max_line (length line) fits in
    let u : nat_lt max_queries (length lines + 1) ≡ true = lt-ltb max_queries (length lines + 1) (omega arith) in
    query_fault_is limits lines line more _ short (omega arith) (rw (t, u) refl)

-- the lines before the first refused one
pub served_before : (limits : Limits) (lines : List Text) (more : List Text) (text : Text) → first_query_fault limits (lines ++ more) ≡ Some (record { line = length lines + 1; text = text }) → served limits (lines ++ more) ≡ lines
served_before limits lines more text fault =
    let back : length lines + 1 - 1 ≡ length lines = omega arith in
    rw (fault, back) (take-append_seam lines more)
