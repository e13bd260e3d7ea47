-- What is left of a search between two questions, where of the lengths asked so far none is misleading.
use Rattle.std.proofs.Common.{◌≡◌, ℕ, zero, suc, ◌+◌, ◌-◌, ◌<◌, ◌≤◌, Bool, true, false, List, [], ◌∷◌, ◌++◌, length, Option, Some, None, refl, sym, ap, ◌∙◌, arith, inl, inr, append_assoc}
use Rattle.std.specs.Prelude.{filter}
use Rattle.std.specs.Bool.{nat_le}
use Rattle.std.specs.List.{slice_index}
use Rattle.std.proofs.lemmas.Bool.{cases_Bool, cases_lt, lt-ltb, leb-true}
use Rattle.std.proofs.lemmas.List.{append-nil}
use Rattle.sx_spec_strings.specs.Numbers.{iterate}
use Rattle.sx_spec_strings.specs.Bits.{Bits}
use Rattle.sx_spec_strings.proofs.NumberLaws.{iterate_still}
use Rattle.sx_spec_kinds.specs.Fattest.{fattest}
use Rattle.sx_spec_kinds.specs.Search.{Search, Answers, reached, node_for, told, turn, search_of}
use Rattle.sx_spec_kinds.proofs.FattestLaws.{fattest_lem}
use Rattle.sx_spec_kinds.proofs.SearchLaws.{depth, Turned, onward, shorter, turn_asks, turn_rests}

-- ---- lists that are filtered

none_more : (p : ℕ → Bool) (xs : List ℕ) (f : ℕ) → filter p xs ≡ [] → p f ≡ false → filter p (xs ++ f ∷ []) ≡ []
none_more p [] f none no' = rw no' refl
none_more p (x ∷ xs) f none no' =
    elim (cases_Bool (p x)) [
      | inl passes ↦ let e : x ∷ filter p xs ≡ [] = rw passes at none in cc
      | inr fails ↦
          let e : filter p xs ≡ [] = rw fails at none in
          rw fails (none_more p xs f e no')
    ]

first_passing : (p : ℕ → Bool) (xs ys : List ℕ) (f : ℕ) → filter p xs ≡ [] → p f ≡ true → slice_index (filter p (xs ++ f ∷ ys)) 0 ≡ f
first_passing p [] ys f none yes' = rw yes' refl
first_passing p (x ∷ xs) ys f none yes' =
    elim (cases_Bool (p x)) [
      | inl passes ↦ let e : x ∷ filter p xs ≡ [] = rw passes at none in cc
      | inr fails ↦
          let e : filter p xs ≡ [] = rw fails at none in
          rw fails (first_passing p xs ys f e yes')
    ]

-- ---- the stages of a search

-- The search that is left, with so many turns, comes to the given end. No length asked so far passes the test p.
pub record Searches (answers : Answers) (lens : List ℕ) (p : ℕ → Bool) (end : Search) (at limit : ℕ) : Type 0 where
  pub turns : ℕ
  pub asked : List ℕ
  pub rest : iterate turns (turn answers lens) (record { node = at; limit = limit; asked = asked }) ≡ end
  pub enough : limit ≤ slice_index lens at + turns
  pub none : filter p asked ≡ []

pub searches_start : (answers : Answers) (lens : List ℕ) (p : ℕ → Bool) (x : Bits) (limit : ℕ) → limit ≡ length x → Searches answers lens p (search_of answers lens x) 0 limit
unfolding search_of
searches_start answers lens p x limit same =
    record {
      turns = length x;
      asked = [];
      rest = rw same refl;
      enough = omega arith;
      none = refl;
    }

pub searches_done : (answers : Answers) (lens : List ℕ) (p : ℕ → Bool) (end : Search) (at limit : ℕ) → Searches answers lens p end at limit → limit ≤ slice_index lens at → (at ≡ end.node) × (filter p end.asked ≡ [])
searches_done answers lens p end at limit h over =
    let s : Search = record { node = at; limit = limit; asked = h.asked } in
    let still : s ≡ end = sym (iterate_still h.turns (turn answers lens) s (turn_rests answers lens s over)) ∙ h.rest in
    (ap (λ (t : Search). t.node) still, ap (λ (t : Search). filter p t.asked) (sym still) ∙ h.none)

turn_is : (answers : Answers) (lens : List ℕ) (s : Search) (o : Option ℕ) → depth lens s < s.limit → node_for answers lens (fattest (depth lens s) s.limit) ≡ o → turn answers lens s ≡ told s (fattest (depth lens s) s.limit) o
unfolding turn
turn_is answers lens s o more e =
    rw (lt-ltb (depth lens s) s.limit more) (ap (told s (fattest (depth lens s) s.limit)) e)

-- one turn of the search
next_turn : (answers : Answers) (lens : List ℕ) (p : ℕ → Bool) (end : Search) (at limit : ℕ) (o : Option ℕ) → Searches answers lens p end at limit → slice_index lens at < limit → node_for answers lens (fattest (slice_index lens at) limit) ≡ o
    → (n : ℕ) × (asked : List ℕ) × (filter p asked ≡ []) × (limit ≤ slice_index lens at + suc n) × (iterate n (turn answers lens) (told (record { node = at; limit = limit; asked = asked }) (fattest (slice_index lens at) limit) o) ≡ end)
next_turn answers lens p end at limit o h more e = go h.turns h.rest h.enough
  where
    s : Search
    s = record { node = at; limit = limit; asked = h.asked }

    go : (n : ℕ) → iterate n (turn answers lens) s ≡ end → limit ≤ slice_index lens at + n
        → (n : ℕ) × (asked : List ℕ) × (filter p asked ≡ []) × (limit ≤ slice_index lens at + suc n) × (iterate n (turn answers lens) (told (record { node = at; limit = limit; asked = asked }) (fattest (slice_index lens at) limit) o) ≡ end)
    go zero rest enough = absurd (omega arith)
    go (suc n) rest enough =
        (n, h.asked, h.none, enough, ap (iterate n (turn answers lens)) (sym (turn_is answers lens s o more e)) ∙ rest)

pub reached_long : (lens : List ℕ) (f v : ℕ) (o : Option ℕ) → reached lens f o ≡ Some v → f ≤ slice_index lens v
reached_long lens f v None h = cc
reached_long lens f v (Some w) h =
    elim (cases_Bool (nat_le f (slice_index lens w))) [
      | inl long ↦
          let e : Some w ≡ Some v = rw long at h in
          let same : w ≡ v = cc in
          let fits = leb-true f (slice_index lens w) long in
          rw (← same) fits
      | inr short ↦ let e : None ≡ Some v = rw short at h in cc
    ]

pub searches_onward : (answers : Answers) (lens : List ℕ) (p : ℕ → Bool) (end : Search) (at limit v : ℕ) → Searches answers lens p end at limit → slice_index lens at < limit → node_for answers lens (fattest (slice_index lens at) limit) ≡ Some v → p (fattest (slice_index lens at) limit) ≡ false → Searches answers lens p end v limit
searches_onward answers lens p end at limit v h more e no' =
    let next = next_turn answers lens p end at limit (Some v) h more e in
    let fat = fattest_lem (slice_index lens at) limit more in
    let above = fat.above in
    let long = reached_long lens (fattest (slice_index lens at) limit) v _ e in
    let enough = next.3 in
    record {
      turns = next.0;
      asked = next.1 ++ fattest (slice_index lens at) limit ∷ [];
      rest = next.4;
      enough = omega arith;
      none = none_more p next.1 (fattest (slice_index lens at) limit) next.2 no';
    }

pub searches_shorter : (answers : Answers) (lens : List ℕ) (p : ℕ → Bool) (end : Search) (at limit : ℕ) → Searches answers lens p end at limit → slice_index lens at < limit → node_for answers lens (fattest (slice_index lens at) limit) ≡ None → p (fattest (slice_index lens at) limit) ≡ false → Searches answers lens p end at (fattest (slice_index lens at) limit - 1)
searches_shorter answers lens p end at limit h more e no' =
    let next = next_turn answers lens p end at limit None h more e in
    let fat = fattest_lem (slice_index lens at) limit more in
    let above = fat.above in
    let within = fat.within in
    let enough = next.3 in
    record {
      turns = next.0;
      asked = next.1 ++ fattest (slice_index lens at) limit ∷ [];
      rest = next.4;
      enough = omega arith;
      none = none_more p next.1 (fattest (slice_index lens at) limit) next.2 no';
    }

-- ---- the first length that passes

-- what was asked stays at the front
asked_front : (answers : Answers) (lens : List ℕ) (turns : ℕ) (s : Search) → (more : List ℕ) × ((iterate turns (turn answers lens) s).asked ≡ s.asked ++ more)
asked_front answers lens zero s = ([], sym (append-nil s.asked))
asked_front answers lens (suc turns) s =
    elim (cases_lt (depth lens s) s.limit) [
      | inl more ↦
          let rest = asked_front answers lens turns (turn answers lens s) in
          let now = front_turned (turn answers lens s) (turn_asks answers lens s more) in
          (now.0 ++ rest.0, rest.1 ∙ ap (λ (xs : List ℕ). xs ++ rest.0) now.1 ∙ append_assoc s.asked now.0 rest.0)
      | inr rests ↦
          ([], ap (λ (t : Search). t.asked) (iterate_still (suc turns) (turn answers lens) s (turn_rests answers lens s rests)) ∙ sym (append-nil s.asked))
    ]
  where
    front_turned : (t : Search) → Turned answers lens s t → (more : List ℕ) × (t.asked ≡ s.asked ++ more)
    front_turned t (onward v e long) = (fattest (depth lens s) s.limit ∷ [], refl)
    front_turned t (shorter e) = (fattest (depth lens s) s.limit ∷ [], refl)

told_asked : (s : Search) (f : ℕ) (o : Option ℕ) → (told s f o).asked ≡ s.asked ++ f ∷ []
told_asked s f None = refl
told_asked s f (Some v) = refl

pub searches_found : (answers : Answers) (lens : List ℕ) (p : ℕ → Bool) (end : Search) (at limit : ℕ) → Searches answers lens p end at limit → slice_index lens at < limit → p (fattest (slice_index lens at) limit) ≡ true → fattest (slice_index lens at) limit ≡ slice_index (filter p end.asked) 0
searches_found answers lens p end at limit h more yes' =
    let f = fattest (slice_index lens at) limit in
    let o = node_for answers lens f in
    let next = next_turn answers lens p end at limit o h more refl in
    let s : Search = record { node = at; limit = limit; asked = next.1 } in
    let front = asked_front answers lens next.0 (told s f o) in
    let all : end.asked ≡ next.1 ++ f ∷ front.0 =
    ap (λ (t : Search). t.asked) (sym next.4) ∙ front.1 ∙ ap (λ (xs : List ℕ). xs ++ front.0) (told_asked s f o) ∙ append_assoc next.1 (f ∷ []) front.0
    in
    sym (ap (λ (xs : List ℕ). slice_index (filter p xs) 0) all ∙ first_passing p next.1 front.0 f next.2 yes')
