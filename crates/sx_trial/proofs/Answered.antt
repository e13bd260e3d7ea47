-- The replies to made lines: how many there are, and their sum.
use Rattle.std.proofs.Common.{◌≡◌, ℕ, zero, suc, ◌+◌, ◌-◌, ◌*◌, ◌/◌, ◌^◌, ◌<◌, ◌≤◌, List, [], ◌∷◌, ◌++◌, length, map, Option, Some, None, refl, sym, ap, ◌∙◌, arith, append-nil, zero-add}
use Rattle.std.specs.Prelude.{codes, decimal, filter_map, sum}
use Rattle.std.specs.List.{cons_option, range_with_len}
use Rattle.std.proofs.Math.Nat.{mul-div_cancel_left}
use Rattle.std.proofs.lemmas.List.{length-append}
use Rattle.std.proofs.lemmas.List.Elements.{filter_map-append}
use Rattle.std.proofs.lemmas.List.FromFn.{length-range_with_len, map-range_with_len_more}
use Rattle.std.proofs.lemmas.List.Sums.{sum_by-append}
use Rattle.sx_spec_strings.specs.Bits.{Bits, key_bits}
use Rattle.sx_spec_strings.proofs.Lists.{below_more}
use Rattle.sx_spec_kinds.specs.declared.Kind.{Kind}
use Rattle.sx_spec_kinds.specs.declared.Kind.TheVariants.{Func, Lcp, Lcp2, Hollow, HollowDist, Zfast}
use Rattle.sx_spec.specs.Command.{Text}
use Rattle.sx_spec.specs.Kinds.{kind_word}
use Rattle.sx_spec.specs.Layout.{Dump}
use Rattle.sx_spec.specs.Outcomes.{trial_line}
use Rattle.sx_spec.specs.Reply.{member_numbers, reply, string_reply}
use Rattle.sx_spec.specs.Trial.{eight_digits, trial_keys}
use Rattle.sx_spec.specs.Values.{plain_values}
use Rattle.sx_trial.specs.Trials.{IsMade, lines_from, replies_from}

-- ---- one line after the other

-- so many replies to n lines from the first on are numbers, and so much is their sum
pub record IsAsked (d : Dump) (first n count total : ℕ) : Type 0 where
  pub many : count ≡ length (replies_from d first n)
  pub summed : total ≡ sum (replies_from d first n)
  pub few : count ≤ n
  pub small : total ≤ 2 ^ 64 * n

-- the replies to one line more
replies_more : (d : Dump) (first n number : ℕ) → first + n ≡ number → replies_from d first (n + 1) ≡ replies_from d first n ++ cons_option (reply d (eight_digits number)) []
replies_more d first n number at =
    ap (filter_map (reply d)) (map-range_with_len_more eight_digits first n number at)
    ∙ filter_map-append (reply d) (lines_from first n) (eight_digits number ∷ [])

-- the next reply is a number
pub one_answered : (d : Dump) (first n more number count total value count_after total_after : ℕ) (bits : Bits) → IsAsked d first n count total → first + n ≡ number → n + 1 ≡ more
    → bits ≡ key_bits (eight_digits number) → Some value ≡ string_reply d bits → value < 2 ^ 64 → count_after ≡ count + 1 → total_after ≡ total + value → IsAsked d first more count_after total_after
one_answered d first n more number count total value count_after total_after bits asked at next string answer below counted summed =
    let is : Some value ≡ reply d (eight_digits number) = answer ∙ ap (string_reply d) string in
    let grown : replies_from d first more ≡ replies_from d first n ++ value ∷ [] =
    ap (λ (m : ℕ). replies_from d first m) (sym next) ∙ replies_more d first n number at ∙ ap (λ (o : Option ℕ). replies_from d first n ++ cons_option o []) (sym is) in
    let longer : length (replies_from d first more) ≡ length (replies_from d first n) + 1 = ap (λ (l : List ℕ). length l) grown ∙ length-append (replies_from d first n) (value ∷ []) in
    let larger : sum (replies_from d first more) ≡ sum (replies_from d first n) + value = ap (λ (l : List ℕ). sum l) grown ∙ sum_by-append (λ (x : ℕ). x) (replies_from d first n) (value ∷ []) ∙ ap (λ (x : ℕ). sum (replies_from d first n) + x) (zero-add value) in
    record { many = omega (arith, longer, asked.many); summed = omega (arith, larger, asked.summed); few = omega (arith, asked.few); small = omega (arith, asked.small) }

-- the next reply is none
pub one_unanswered : (d : Dump) (first n more number count total count_after total_after : ℕ) (bits : Bits) → IsAsked d first n count total → first + n ≡ number → n + 1 ≡ more
    → bits ≡ key_bits (eight_digits number) → None ≡ string_reply d bits → count_after ≡ count → total_after ≡ total → IsAsked d first more count_after total_after
one_unanswered d first n more number count total count_after total_after bits asked at next string answer counted summed =
    let is : None ≡ reply d (eight_digits number) = answer ∙ ap (string_reply d) string in
    let grown : replies_from d first more ≡ replies_from d first n =
    ap (λ (m : ℕ). replies_from d first m) (sym next) ∙ replies_more d first n number at ∙ ap (λ (o : Option ℕ). replies_from d first n ++ cons_option o []) (sym is) ∙ append-nil (replies_from d first n) in
    record {
      many = counted ∙ asked.many ∙ ap (λ (l : List ℕ). length l) (sym grown);
      summed = summed ∙ asked.summed ∙ ap (λ (l : List ℕ). sum l) (sym grown);
      few = omega (arith, asked.few);
      small = omega (arith, asked.small);
    }

-- ---- members

-- replies that are numbers, each
answered_all : {X : Type 0} (f : X → Option ℕ) (xs : List X) (ns : List ℕ) → map f xs ≡ map (λ n. Some n) ns → filter_map f xs ≡ ns
answered_all f [] [] each = refl
answered_all f [] (n ∷ ns) each = absurd cc
answered_all f (x ∷ xs) [] each = absurd cc
answered_all f (x ∷ xs) (n ∷ ns) each =
    let front : f x ≡ Some n = cc in
    let rest : map f xs ≡ map (λ n. Some n) ns = cc in
    ap (λ (o : Option ℕ). cons_option o (filter_map f xs)) front ∙ ap (λ (l : List ℕ). n ∷ l) (answered_all f xs ns rest)

-- the members are answered their numbers, whatever the kind
numbers_are_plain : (kind : Kind) (n : ℕ) → member_numbers kind (plain_values n) ≡ plain_values n
numbers_are_plain Func n = refl
numbers_are_plain Lcp n = ap plain_values (length-range_with_len 0 n)
numbers_are_plain Lcp2 n = ap plain_values (length-range_with_len 0 n)
numbers_are_plain Hollow n = ap plain_values (length-range_with_len 0 n)
numbers_are_plain HollowDist n = ap plain_values (length-range_with_len 0 n)
numbers_are_plain Zfast n = ap plain_values (length-range_with_len 0 n)

members_answered : (kind : Kind) (n : ℕ) (words : List ℕ) (d : Dump) → IsMade kind n words d → replies_from d 0 n ≡ plain_values n
members_answered kind n words d made =
    answered_all (reply d) (trial_keys n) (member_numbers d.header.plan.kind (plain_values n)) made.members ∙ numbers_are_plain d.header.plan.kind n

-- ---- the sum of the numbers below one

twice_sum : (n : ℕ) → 2 * sum (range_with_len 0 n) + n ≡ n * n
twice_sum zero = refl
twice_sum (suc n) =
    let e : suc n ≡ n + 1 = omega arith in
    let more : sum (range_with_len 0 (suc n)) ≡ sum (range_with_len 0 n ++ n ∷ []) = ap (λ (m : ℕ). sum (range_with_len 0 m)) e ∙ ap (λ (l : List ℕ). sum l) (below_more n) in
    let parts : sum (range_with_len 0 n ++ n ∷ []) ≡ sum (range_with_len 0 n) + sum (n ∷ []) = sum_by-append (λ (x : ℕ). x) (range_with_len 0 n) (n ∷ []) in
    let before = twice_sum n in
    omega (arith, more, parts, before)

half_product : (n total : ℕ) → 2 * total + n ≡ n * n → n * (n - 1) / 2 ≡ total
half_product zero total twice = let none : total ≡ 0 = omega (arith, twice) in sym none
half_product (suc n) total twice =
    let one_less : suc n - 1 ≡ n = omega arith in
    let product : suc n * (suc n - 1) ≡ 2 * total = ap (λ (m : ℕ). suc n * m) one_less ∙ (let e : suc n * n ≡ 2 * total = omega (arith, twice) in e) in
    ap (λ (m : ℕ). m / 2) product ∙ mul-div_cancel_left total (let two : 0 < 2 = omega arith in two)

-- ---- the line

-- the line with these numbers
abbrev pub line_with : Kind → (keys answers total strangers : ℕ) → Text
line_with kind keys answers total strangers =
    codes "trial " ++ kind_word kind ++ codes " keys " ++ decimal keys ++ codes " answers " ++ decimal answers ++ codes " sum " ++ decimal total ++ codes " strangers " ++ decimal strangers ++ 10 ∷ []

-- what was counted and summed is what the line says
pub line_told : (kind : Kind) (n : ℕ) (words : List ℕ) (d : Dump) → IsMade kind n words d
    → (keys answers total strangers : ℕ) → keys ≡ n → answers ≡ length (replies_from d 0 n) → total ≡ sum (replies_from d 0 n) → strangers ≡ sum (replies_from d n n)
    → line_with kind keys answers total strangers ≡ trial_line kind n d
line_told kind n words d made keys answers total strangers keys_are answers_are total_is strangers_are =
    let plain = members_answered kind n words d made in
    let count : answers ≡ n = answers_are ∙ ap (λ (l : List ℕ). length l) plain ∙ length-range_with_len 0 n in
    let whole : total ≡ n * (n - 1) / 2 = total_is ∙ ap (λ (l : List ℕ). sum l) plain ∙ sym (half_product n (sum (range_with_len 0 n)) (twice_sum n)) in
    λ i. line_with kind (keys_are i) (count i) (whole i) (strangers_are i)
