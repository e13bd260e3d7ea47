-- Line feeds: the first one of a list, and what stands before it.
use Rattle.std.proofs.Common.{◌≡◌, ◌≢◌, ℕ, zero, suc, ◌+◌, ◌-◌, ◌<◌, ◌≤◌, nat_lt, min, true, false, List, [], ◌∷◌, ◌++◌, Some, None, take, drop, length, get_or, arith, refl, sym, ap, ◌∙◌, inl, inr, append_assoc}
use Rattle.std.proofs.lemmas.Bool.Decides.{nat_tests}
use Rattle.std.proofs.lemmas.List.{take-take, take_all, get_or-take, get_or-drop}
use Rattle.std.proofs.lemmas.List.Folds.{list_any-append}
use Rattle.std.proofs.lemmas.Bool.{cases_lt}
use Rattle.memchr.specs.Find.{Passes, IsFirstByte, is_byte}
use Rattle.std.specs.List.{list_any, onto_first}
use Rattle.sx_spec_strings.specs.Lines.{is_line_feed, lines}
use Rattle.sx_edge.specs.Places.{HasNoFeed, bytes_between, IsFeedPlace}
use Rattle.sx_edge.specs.Reading.{Reading, first_line, CutsLine}
use Rattle.sx_edge.proofs.Betweens.{length-between, between_none, between_joins, between_first}

pub no_feed_before : (hay : List ℕ) (k : ℕ) → k ≤ length hay → ((j : ℕ) → j < k → ¬ Passes (is_byte 10) hay j) → HasNoFeed (take k hay)
no_feed_before hay zero le none = refl
no_feed_before [] (suc k) le none = refl
no_feed_before (x ∷ hay) (suc k) le none =
    let later = no_feed_before hay k (omega arith) (λ j h. none (suc j) (omega arith)) in
    let first : ¬ Passes (is_byte 10) (x ∷ hay) 0 = none 0 (omega arith) in
    grind (arith, nat_tests, first, later)

pub no_feed-append : (xs ys : List ℕ) → HasNoFeed xs → HasNoFeed ys → HasNoFeed (xs ++ ys)
no_feed-append xs ys h k = list_any-append is_line_feed xs ys ∙ rw (h, k) refl

-- what a search between two places found
pub feed_found : (buf : List ℕ) (start end at : ℕ) → start ≤ end → end ≤ length buf → IsFirstByte (is_byte 10) (bytes_between buf start end) (Some at) → IsFeedPlace buf start end (start + at)
feed_found buf start end at order within found =
    let size = length-between buf start end within in
    let low : at < end - start = omega (arith, size, found.0.high) in
    let width : start + at - start ≡ at = omega arith in
    let front : take at (bytes_between buf start end) ≡ take at (drop start buf) = take-take at (end - start) (drop start buf) (omega arith) in
    let passes : get_or (bytes_between buf start end) at 0 ≡ 10 = grind (arith, nat_tests, found.1) in
    let free = no_feed_before (bytes_between buf start end) at (omega (arith, size)) (λ j h. found.0.before j (omega arith) h) in
    record {
      from = omega arith;
      to = omega arith;
      none = rw (width, ← front) free;
      found = λ some. rw (get_or-take (end - start) (drop start buf) at 0 low, get_or-drop start buf at 0) at passes;
    }

pub feed_missing : (buf : List ℕ) (start end : ℕ) → start ≤ end → end ≤ length buf → IsFirstByte (is_byte 10) (bytes_between buf start end) None → IsFeedPlace buf start end end
feed_missing buf start end order within missing =
    let all = no_feed_before (bytes_between buf start end) (length (bytes_between buf start end)) (omega arith) (λ j h. missing j (omega arith) h) in
    record {
      from = order;
      to = omega arith;
      none = rw (take_all (length (bytes_between buf start end)) (bytes_between buf start end) (omega arith)) at all;
      found = λ some. absurd (omega arith);
    }

-- bytes without a line feed before the part that was searched
pub feed_extends : (buf : List ℕ) (start mid end place : ℕ) → start ≤ mid → HasNoFeed (bytes_between buf start mid) → IsFeedPlace buf mid end place → IsFeedPlace buf start end place
feed_extends buf start mid end place low free at = record {
  from = omega (arith, at.from);
  to = at.to;
  none = rw (between_joins buf start mid place low at.from) (no_feed-append (bytes_between buf start mid) (bytes_between buf mid place) free at.none);
  found = at.found;
}

-- a line feed stands between two places exactly where its place is before the end
pub has_feed : (buf : List ℕ) (start end place : ℕ) → end ≤ length buf → IsFeedPlace buf start end place → list_any is_line_feed (bytes_between buf start end) ≡ nat_lt place end
has_feed buf start end place within at = elim (cases_lt place end) [
  | inl below ↦
      let first : get_or buf place 0 ≡ 10 = at.found below in
      let parts = between_joins buf start place end at.from at.to in
      let split = list_any-append is_line_feed (bytes_between buf start place) (bytes_between buf place end) in
      let here = between_first buf place end below within in
      let free : list_any is_line_feed (bytes_between buf start place) ≡ false = at.none in
      rw (parts, split, free, here, first) (grind (arith, nat_tests))
  | inr above ↦
      let same : place ≡ end = omega (arith, at.to) in
      let free : list_any is_line_feed (bytes_between buf start end) ≡ false = rw same at at.none in
      rw free (grind (arith, nat_tests))
]

-- the first line of bytes is at least as long as what stands at their front without a line feed
first_onto : (b : ℕ) (parts : List (List ℕ)) → get_or (onto_first b parts) 0 [] ≡ b ∷ get_or parts 0 []
first_onto b [] = refl
first_onto b (part ∷ parts) = refl

pub first_line-long : (front rest : List ℕ) → HasNoFeed front → length front ≤ length (first_line (front ++ rest))
first_line-long [] rest free = omega arith
first_line-long (b ∷ front) rest free =
    let none : is_line_feed b ≡ false = grind (arith, nat_tests, free) in
    let later : HasNoFeed front = grind (arith, nat_tests, free) in
    let more = first_line-long front rest later in
    let is : first_line (b ∷ (front ++ rest)) ≡ b ∷ first_line (front ++ rest) = rw none (first_onto b (lines (front ++ rest))) in
    rw is (omega arith)

pub long_line : (buf rest : List ℕ) (start end place max : ℕ) → end ≤ length buf → IsFeedPlace buf start end place → max < place - start → max < length (first_line (bytes_between buf start end ++ rest))
long_line buf rest start end place max within at long =
    let size = length-between buf start place (omega (arith, at.to)) in
    let parts : bytes_between buf start end ++ rest ≡ bytes_between buf start place ++ (bytes_between buf place end ++ rest) =
    ap (λ (l : List ℕ). l ++ rest) (between_joins buf start place end at.from at.to) ∙ append_assoc (bytes_between buf start place) (bytes_between buf place end) rest in
    rw parts (omega (arith, size, first_line-long (bytes_between buf start place) (bytes_between buf place end ++ rest) at.none))

-- ---- the first line is cut off

-- a line that a line feed ends, and one at the end
pub cuts_line : (old new : Reading) (buf : List ℕ) (start end place next : ℕ) → old.held ≡ bytes_between buf start end → new.held ≡ bytes_between buf next end → new.line ≡ Some (bytes_between buf start place) → end ≤ length buf → IsFeedPlace buf start end place → start ≢ end → place - start ≤ old.max → (place ≡ end → old.ended ≡ true) → next ≡ min (place + 1) end → new.number ≡ old.number + 1 → new.ended ≡ old.ended → CutsLine old new
cuts_line old new buf start end place next held rest line within at some short ends next-is number ended = record {
  line = bytes_between buf start place;
  is = line;
  number = number;
  no_feed = at.none;
  short = omega (arith, length-between buf start place (omega (arith, at.to)));
  ended = ended;
  cut = elim (cases_lt place end) [
    | inl below ↦
        let first : get_or buf place 0 ≡ 10 = at.found below in
        let after : next ≡ place + 1 = omega arith in
        inl (held ∙ between_joins buf start place end at.from at.to ∙ rw (between_first buf place end below within, first, rest, after) (sym (append_assoc (bytes_between buf start place) (10 ∷ []) (bytes_between buf (place + 1) end))))
    | inr above ↦
        let same : place ≡ end = omega (arith, at.to) in
        let after : next ≡ end = omega arith in
        inr (
          rw same held,
          rest ∙ rw after (between_none buf end),
          ends same,
          λ none. some (omega (arith, ap length none, length-between buf start place (omega (arith, at.to)), at.from)),
        )
  ];
}
