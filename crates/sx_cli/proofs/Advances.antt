-- How reading the lines of input goes on, and what it comes to.
use Rattle.std.proofs.Common.{◌≡◌, ◌≢◌, ℕ, ◌<◌, ◌≤◌, Bool, true, false, List, [], ◌∷◌, ◌++◌, length, refl, sym, ap, subst, ◌∙◌, arith, append_assoc, inl, inr, ◌⊎◌, Option, Some, None, append-nil}
use Rattle.std.specs.Prelude.{IfSome}
use Rattle.std.specs.Io.KnownBytes.{Consumes, IsAtEnd}
use Rattle.std.specs.List.{AllByRecursion}
use Rattle.std.proofs.KnownBytes.{Consumes-trans, Consumes-nil}
use Rattle.std.proofs.lemmas.List.{length-append}
use Rattle.sx_spec.specs.Command.{Text}
use Rattle.sx_spec_strings.specs.Lines.{lines}
use Rattle.sx_edge.specs.Places.{HasNoFeed}
use Rattle.sx_edge.proofs.LineLaws.{lines-last}
use Rattle.sx_cli.specs.KeyLines.{fed}
use Rattle.sx_cli.specs.Progress.{Begins, BreaksBehind, Over, Progress, ReadsAll, FailsBehind, StopsAt}
use Rattle.sx_cli.proofs.FedLines.{lines-fed_all, fed-push, all_push, unfinished-fed, complete-fed}

not_empty : (xs : List ℕ) → 0 < length xs → xs ≢ []
not_empty xs some = λ e. absurd (omega (arith, ap (λ (l : List ℕ). length l) e))

pub starts : (first : Option (List ℕ)) → Progress first first [] false []
starts first = record { state = inl (record { taken = Consumes-nil first; no_feeds = tt }); end = λ e. absurd cc }

-- what was taken, and all that was there, begins with the lines that were read
pub breaks_behind : (first now : Option (List ℕ)) (held : List ℕ) (ended : Bool) (ls : List Text) → Progress first now held ended ls → BreaksBehind first now ls
breaks_behind first now held ended ls p = elim p.state [
  | inl g ↦ record {
    taken = fed ls ++ held;
    consumed = g.taken;
    more = lines held;
    are = lines-fed_all ls held g.no_feeds;
    told = going first now g.taken g.no_feeds;
  }
  | inr o ↦ record {
    taken = fed o.front ++ o.last;
    consumed = o.taken;
    more = [];
    are = whole o ∙ sym (append-nil ls);
    told = over first now o (p.end o.ended_here) o.taken;
  }
]
  where
    whole : (o : Over first now held ended ls) → lines (fed o.front ++ o.last) ≡ ls
    whole o = lines-fed_all o.front o.last o.no_feeds ∙ ap (λ (x : List Text). o.front ++ x) (lines-last o.last o.no_feed (not_empty o.last o.some)) ∙ sym o.is

    going : (f n : Option (List ℕ)) → Consumes f n (fed ls ++ held) → AllByRecursion HasNoFeed ls → Begins f ls
    going None n c none = tt
    going (Some xs) None c none = absurd c
    going (Some xs) (Some ys) c none = (lines (held ++ ys), ap lines (c ∙ append_assoc (fed ls) held ys) ∙ lines-fed_all ls (held ++ ys) none)

    over : (f n : Option (List ℕ)) (o : Over first now held ended ls) → IsAtEnd n → Consumes f n (fed o.front ++ o.last) → Begins f ls
    over None n o end c = tt
    over (Some xs) None o end c = absurd c
    over (Some xs) (Some ys) o end c = ([], ap lines (c ∙ ap (λ (x : List ℕ). (fed o.front ++ o.last) ++ x) end ∙ append-nil (fed o.front ++ o.last)) ∙ whole o ∙ sym (append-nil ls))

module _ (first now then : Option (List ℕ)) (held next bytes : List ℕ) (ended over : Bool) (ls : List Text)
    (consumed : Consumes now then bytes) (at_end : over ≡ true → (ended ≡ true) ⊎ IsAtEnd then) (quiet : ended ≡ true → (bytes ≡ []) × (then ≡ now) × (over ≡ true)) where
  -- what ended stays at its end
  ends : Progress first now held ended ls → over ≡ true → IsAtEnd then
  ends p is = elim (at_end is) [ inl was ↦ rw ((quiet was).1) (p.end was) | inr here ↦ here ]

  -- what is taken together
  together : (front cut : List ℕ) → Consumes first now (front ++ held) → held ++ bytes ≡ cut ++ next → Consumes first then (front ++ (cut ++ next))
  together front cut taken whole =
      let all = Consumes-trans first now then (front ++ held) bytes taken consumed in
      subst (Consumes first then) (append_assoc front held bytes ∙ ap (λ (x : List ℕ). front ++ x) whole) all

  -- nothing is held and nothing comes
  none_left : (front : List Text) (last : Text) → Over first now held ended ls → held ++ bytes ≡ []
  none_left front last o = let (none, same, still) = quiet o.ended_here in rw (o.none_held, none) refl

  no_bytes : (xs ys : List ℕ) → xs ++ ys ≡ [] → length xs ≡ 0
  no_bytes [] ys e = refl
  no_bytes (x ∷ xs) ys e = absurd cc

  -- a line with its line feed was cut off
  pub line_fed : (line : Text) → HasNoFeed line → held ++ bytes ≡ (line ++ 10 ∷ []) ++ next → Progress first now held ended ls → Progress first then next over (ls ++ line ∷ [])
  line_fed line none whole p = elim p.state [
    | inl g ↦ record {
      state = inl (record {
        taken = subst (Consumes first then) (fed-push ls line next) (together (fed ls) (line ++ 10 ∷ []) g.taken whole);
        no_feeds = all_push HasNoFeed ls line g.no_feeds none;
      });
      end = ends p;
    }
    | inr o ↦ absurd (let e = no_bytes (line ++ 10 ∷ []) next (sym whole ∙ none_left ls [] o) in omega (arith, length-append line (10 ∷ [])))
  ]

  -- the last line was cut off
  pub line_last : (line : Text) → HasNoFeed line → 0 < length line → held ++ bytes ≡ line ++ next → next ≡ [] → over ≡ true → Progress first now held ended ls → Progress first then next over (ls ++ line ∷ [])
  line_last line none some whole nothing is p = elim p.state [
    | inl g ↦ record {
      state = inr (record {
        front = ls;
        last = line;
        is = refl;
        taken = subst (Consumes first then) (ap (λ (x : List ℕ). fed ls ++ (line ++ x)) nothing ∙ ap (λ (x : List ℕ). fed ls ++ x) (append-nil line)) (together (fed ls) line g.taken whole);
        no_feeds = g.no_feeds;
        no_feed = none;
        some = some;
        ended_here = is;
        none_held = nothing;
      });
      end = ends p;
    }
    | inr o ↦ absurd (let e = no_bytes line next (sym whole ∙ none_left ls [] o) in omega arith)
  ]

  -- nothing is left
  pub all_read : held ++ bytes ≡ next → next ≡ [] → over ≡ true → Progress first now held ended ls → ReadsAll first then ls
  all_read whole nothing is p = elim p.state [
    | inl g ↦ record {
      taken = fed ls ++ ([] ++ next);
      consumed = together (fed ls) [] g.taken whole;
      are = ap (λ (x : List ℕ). lines (fed ls ++ x)) nothing ∙ lines-fed_all ls [] g.no_feeds ∙ append-nil ls;
      end = ends p is;
    }
    | inr o ↦
        let (none, same, still) = quiet o.ended_here in
        record {
          taken = fed o.front ++ o.last;
          consumed = subst (λ x. Consumes first x (fed o.front ++ o.last)) (sym same) o.taken;
          are = lines-fed_all o.front o.last o.no_feeds ∙ ap (λ (x : List Text). o.front ++ x) (lines-last o.last o.no_feed (not_empty o.last o.some)) ∙ sym o.is;
          end = ends p is;
        }
  ]

  -- input failed
  pub fails_behind : (max : ℕ) → held ++ bytes ≡ next → HasNoFeed next → length next ≤ max → over ≡ false → Progress first now held ended ls → FailsBehind first then max ls
  fails_behind max whole none short open_still p = elim p.state [
    | inl g ↦ record {
      taken = fed ls ++ ([] ++ next);
      consumed = together (fed ls) [] g.taken whole;
      are = complete-fed ls next none g.no_feeds;
      short = rw (unfinished-fed ls next none) short;
      told = (breaks_behind first now held ended ls p).told;
    }
    | inr o ↦ absurd (let (nothing, same, still) = quiet o.ended_here in cc)
  ]

  -- a line is too long, whatever comes behind what is held
  pub long_line : (max : ℕ) → held ++ bytes ≡ next → ((ys : List ℕ) → (line : Text) × (more : List Text) × (lines (next ++ ys) ≡ line ∷ more) × (max < length line)) → Progress first now held ended ls → StopsAt first then ls (λ line. max < length line)
  long_line max whole long p = elim p.state [
    | inl g ↦
        let (line, more, are, is) = long [] in
        record {
          taken = fed ls ++ next;
          consumed = together (fed ls) [] g.taken whole;
          line = line;
          more = more;
          are = lines-fed_all ls next g.no_feeds ∙ ap (λ (x : List Text). ls ++ x) (ap lines (sym (append-nil next)) ∙ are);
          is = is;
          told = told_long first then (together (fed ls) [] g.taken whole) g.no_feeds;
        }
    | inr o ↦ absurd (
        let nothing : next ≡ [] = sym whole ∙ none_left ls [] o in
        let (line, more, are, is) = long [] in
        let none : lines (next ++ []) ≡ [] = ap (λ (x : List ℕ). lines (x ++ [])) nothing in
        cc)
  ]
    where
      told_long : (first then : Option (List ℕ)) → Consumes first then (fed ls ++ next) → AllByRecursion HasNoFeed ls → IfSome first (λ all. (rest : List Text) × (other : Text) × (max < length other) × (lines all ≡ ls ++ other ∷ rest))
      told_long None then c none = tt
      told_long (Some xs) None c none = absurd c
      told_long (Some xs) (Some ys) c none =
          let (line, more, are, is) = long ys in
          (more, line, is, ap lines (c ∙ append_assoc (fed ls) next ys) ∙ lines-fed_all ls (next ++ ys) none ∙ ap (λ (x : List Text). ls ++ x) are)

behind_last : (ls : List Text) (line : Text) (more : List Text) → (ls ++ line ∷ []) ++ more ≡ ls ++ line ∷ more
behind_last ls line more = append_assoc ls (line ∷ []) more

-- the line that was read last is one of which something is known
pub stops_at_last : (first now : Option (List ℕ)) (held : List ℕ) (ended : Bool) (ls : List Text) (line : Text) (IsLine : Text → Type 0) → IsLine line
    → Progress first now held ended (ls ++ line ∷ []) → StopsAt first now ls IsLine
stops_at_last first now held ended ls line IsLine is p = elim p.state [
  | inl g ↦ record {
    taken = fed (ls ++ line ∷ []) ++ held;
    consumed = g.taken;
    line = line;
    more = lines held;
    are = lines-fed_all (ls ++ line ∷ []) held g.no_feeds ∙ behind_last ls line (lines held);
    is = is;
    told = going first now g.taken g.no_feeds;
  }
  | inr o ↦ record {
    taken = fed o.front ++ o.last;
    consumed = o.taken;
    line = line;
    more = [];
    are = whole o;
    is = is;
    told = over first now o (p.end o.ended_here) o.taken;
  }
]
  where
    whole : (o : Over first now held ended (ls ++ line ∷ [])) → lines (fed o.front ++ o.last) ≡ ls ++ line ∷ []
    whole o = lines-fed_all o.front o.last o.no_feeds ∙ ap (λ (x : List Text). o.front ++ x) (lines-last o.last o.no_feed (not_empty o.last o.some)) ∙ sym o.is

    going : (f n : Option (List ℕ)) → Consumes f n (fed (ls ++ line ∷ []) ++ held) → AllByRecursion HasNoFeed (ls ++ line ∷ []) → IfSome f (λ all. (rest : List Text) × (other : Text) × IsLine other × (lines all ≡ ls ++ other ∷ rest))
    going None n c none = tt
    going (Some xs) None c none = absurd c
    going (Some xs) (Some ys) c none =
        (lines (held ++ ys), line, is, ap lines (c ∙ append_assoc (fed (ls ++ line ∷ [])) held ys) ∙ lines-fed_all (ls ++ line ∷ []) (held ++ ys) none ∙ behind_last ls line (lines (held ++ ys)))

    over : (f n : Option (List ℕ)) (o : Over first now held ended (ls ++ line ∷ [])) → IsAtEnd n → Consumes f n (fed o.front ++ o.last) → IfSome f (λ all. (rest : List Text) × (other : Text) × IsLine other × (lines all ≡ ls ++ other ∷ rest))
    over None n o end c = tt
    over (Some xs) None o end c = absurd c
    over (Some xs) (Some ys) o end c =
        ([], line, is, ap lines (c ∙ ap (λ (x : List ℕ). (fed o.front ++ o.last) ++ x) end ∙ append-nil (fed o.front ++ o.last)) ∙ whole o)
