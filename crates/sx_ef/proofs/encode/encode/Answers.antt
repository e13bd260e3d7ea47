use Rattle.std.proofs.Common.{◌≡◌, ◌∙◌, ◌<◌, ◌≤◌, ◌^◌, ◌-◌, ◌+◌, ◌*◌, ◌/◌, ◌%◌, ℕ, List, true, ◌++◌, length, map, get_or, sym, subst, ap, arith, None}
use Rattle.sx_spec.specs.Fields.{below_of, low_width, packed, number_words, low_words, upper_words}
use Rattle.sx_ef.specs.Parts.{places_number, is_sums_list, numbers_in}
use Rattle.sx_ef.proofs.RoundTrip.{round_trip}
use Rattle.sx_ef.proofs.Encoding.{last_is, places_within}
use Rattle.sx_ef.proofs.Widths.{upper_few}
use Rattle.sx_ef.proofs.encode.encode.Goals as goal

-- one more than the last number
end_is : (list : List ℕ) → 0 < length list → get_or list (length list - 1) 0 + 1 ≡ below_of list
end_is list some = let last = last_is None list some in omega arith

pub overflow_add-below : goal.overflow_add-below
overflow_add-below c = let last = end_is c.args.list.now c.requires.some in omega (arith, c.requires.last)

pub overflow_add-bits : goal.overflow_add-bits
overflow_add-bits c =
    let list = c.args.list.now in
    let below = get_or list (length list - 1) 0 + 1 in
    let few = subst (λ w. length list + (below - 1) / 2 ^ w < 3 * length list) (sym c.low_bits-width.ensures.width) (upper_few (length list) below c.requires.some (omega arith)) in
    omega (arith, c.requires.short)

pub set_places-requires-clause-within : goal.set_places-requires-clause-within
set_places-requires-clause-within c =
    let list = c.args.list.now in
    let last = get_or list (length list - 1) 0 in
    let e : last ≡ last + 1 - 1 = omega arith in
    λ i within. subst (λ m. get_or list i 0 / 2 ^ c.low_bits-width.result + i < length list + m / 2 ^ c.low_bits-width.result) e
    (places_within list c.low_bits-width.result c.requires.rising i within)

pub returns-clause-below : goal.returns-clause-below
returns-clause-below c = end_is c.args.list.now c.requires.some

pub returns-clause-low : goal.returns-clause-low
returns-clause-low c =
    let list = c.args.list.now in
    let width : c.low_bits-width.result ≡ low_width (length list) (below_of list) = c.low_bits-width.ensures.width ∙ ap (low_width (length list)) (end_is list c.requires.some) in
    c.in_ok-low.ensures ∙ ap (λ w. packed w (map (λ x. x % 2 ^ w) list)) width

pub returns-clause-upper : goal.returns-clause-upper
returns-clause-upper c =
    let list = c.args.list.now in
    let end = end_is list c.requires.some in
    let width : c.low_bits-width.result ≡ low_width (length list) (below_of list) = c.low_bits-width.ensures.width ∙ ap (low_width (length list)) end in
    c.in_ok-upper.ensures ∙ (λ j. number_words (length list + (end j - 1) / 2 ^ width j) (places_number (width j) list))

-- what is encoded, and what it stands for
ends : (list : List ℕ) (below : ℕ) (low upper : List ℕ) → 0 < length list → ((i : ℕ) → i + 1 < length list → get_or list i 0 ≤ get_or list (i + 1) 0) → below ≡ below_of list → low ≡ low_words list → upper ≡ upper_words list → (is_sums_list (length list) below (low ++ upper) ≡ true) × (numbers_in (length list) below (low ++ upper) ≡ list)
ends list below low upper some rising below_is low_is upper_is =
    let trip = round_trip list some rising in
    let whole : low ++ upper ≡ low_words list ++ upper_words list = λ i. low_is i ++ upper_is i in
    ((λ i. is_sums_list (length list) (below_is i) (whole i)) ∙ trip.0, (λ i. numbers_in (length list) (below_is i) (whole i)) ∙ trip.1)

pub returns-clause-valid : goal.returns-clause-valid
returns-clause-valid c =
    let list = c.args.list.now in
    (ends list (get_or list (length list - 1) 0 + 1) c.in_ok-low.low.items c.in_ok-upper.upper.items c.requires.some c.requires.rising (returns-clause-below c) (returns-clause-low c) (returns-clause-upper c)).0

pub returns-clause-numbers : goal.returns-clause-numbers
returns-clause-numbers c =
    let list = c.args.list.now in
    (ends list (get_or list (length list - 1) 0 + 1) c.in_ok-low.low.items c.in_ok-upper.upper.items c.requires.some c.requires.rising (returns-clause-below c) (returns-clause-low c) (returns-clause-upper c)).1
