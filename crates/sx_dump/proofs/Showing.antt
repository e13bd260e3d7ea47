-- What a loop over lines has written so far, and what it holds.
use Rattle.std.proofs.Common.{◌≡◌, ℕ, zero, suc, ◌+◌, ◌<◌, ◌≤◌, length, subst, List, [], ◌∷◌, ◌++◌, Option, Some, None, take, sym, ap, ◌∙◌, refl, arith, append_assoc, append-nil}
use Rattle.std.specs.Prelude.{flat_map, slice_get, slice_index, Result, Ok, Err, OnOk, OnErr}
use Rattle.std.specs.List.{enumerate_from}
use Rattle.std.proofs.lemmas.List.{take_all}
use Rattle.std.specs.Io.KnownBytes.{Appends}
use Rattle.std.proofs.KnownBytes.{Appends-trans}
use Rattle.sx_spec_strings.specs.Bits.{IsPrefix}
use Rattle.sx_edge.specs.Parts.{AppendsPrefix}
use Rattle.sx_dump.specs.Showing.{IsShown}

-- ---- what is shown

-- nothing yet
pub shown_none : (a : Option (List ℕ)) (held : List ℕ) → IsShown a a (held ++ []) held
shown_none a held = record { part = []; split = append-nil held; written = appends_none a }
  where
    appends_none : (a : Option (List ℕ)) → Appends a a []
    appends_none None = tt
    appends_none (Some xs) = sym (append-nil xs)

-- a fact that holds at an exit
pub at_exit : {T E : Type 0} (r : Result T E) {Q : Type 0} → Q → OnErr r Q
at_exit (Ok x) q = tt
at_exit (Err e) q = q

-- one after the other
pub shown_on : {a b : Option (List ℕ)} {text held : List ℕ} (c : Option (List ℕ)) (more rest : List ℕ) → IsShown a b text held → IsShown b c (held ++ more) rest → IsShown a c (text ++ more) rest
shown_on {a} {b} {text} {held} c more rest first next = record {
  part = first.part ++ next.part;
  split = ap (λ l. l ++ more) first.split ∙ append_assoc first.part held more ∙ ap (λ l. first.part ++ l) next.split ∙ sym (append_assoc first.part next.part rest);
  written = Appends-trans a b c first.part next.part first.written next.written;
}

-- a page that was written, and a line more on what is held then
pub shown_line : {a b c : Option (List ℕ)} {text held rest : List ℕ} (line more whole : List ℕ) → IsShown a b text held → IsShown b c held rest → more ≡ rest ++ line → whole ≡ text ++ line → IsShown a c whole more
shown_line {a} {b} {c} {text} {held} {rest} line more whole first next put is = record {
  part = first.part ++ next.part;
  split = is ∙ ap (λ l. l ++ line) (first.split ∙ ap (λ l. first.part ++ l) next.split) ∙ regroup first.part next.part rest line ∙ ap (λ l. (first.part ++ next.part) ++ l) (sym put);
  written = Appends-trans a b c first.part next.part first.written next.written;
} where
  regroup : (p q r l : List ℕ) → (p ++ (q ++ r)) ++ l ≡ (p ++ q) ++ (r ++ l)
  regroup p q r l = simp append_assoc

-- a line put on what is held
pub shown_put : {a b : Option (List ℕ)} {text held : List ℕ} (line more : List ℕ) → IsShown a b text held → more ≡ held ++ line → IsShown a b (text ++ line) more
shown_put {a} {b} {text} {held} line more first put = record {
  part = first.part;
  split = ap (λ l. l ++ line) first.split ∙ append_assoc first.part held line ∙ ap (λ l. first.part ++ l) (sym put);
  written = first.written;
}

-- what is held is cut off by a failure
pub shown_cut : {a b : Option (List ℕ)} {text held : List ℕ} (c : Option (List ℕ)) (whole : List ℕ) → IsShown a b text held → AppendsPrefix b c held → IsPrefix text whole → AppendsPrefix a c whole
shown_cut {a} {b} {text} {held} c whole first (part, (more, split), after) (rest, is) = (
  first.part ++ part,
  (more ++ rest, is ∙ ap (λ l. l ++ rest) (first.split ∙ ap (λ l. first.part ++ l) split) ∙ regroup first.part part more rest),
  Appends-trans a b c first.part part first.written after,
) where
  regroup : (p q r l : List ℕ) → (p ++ (q ++ r)) ++ l ≡ (p ++ q) ++ (r ++ l)
  regroup p q r l = simp append_assoc

-- ---- numbered lines

-- one line more
pub lines_more : {X : Type 0} (line : ℕ × X → List ℕ) (a i : ℕ) (x : X) (xs : List X) → slice_get xs i ≡ Some x
    → flat_map line (enumerate_from a (take (suc i) xs)) ≡ flat_map line (enumerate_from a (take i xs)) ++ line (a + i, x)
lines_more {X} line a i x [] at = absurd cc
lines_more {X} line a zero x (y ∷ xs) at =
    let same : y ≡ x = cc in
    let e : a ≡ a + 0 = omega arith in
    append-nil (line (a, y)) ∙ (λ k. line (e k, same k))
lines_more {X} line a (suc i) x (y ∷ xs) at =
    let e : a + 1 + i ≡ a + suc i = omega arith in
    ap (λ l. line (a, y) ++ l) (lines_more line (a + 1) i x xs at ∙ ap (λ (n : ℕ). flat_map line (enumerate_from (a + 1) (take i xs)) ++ line (n, x)) e)
    ∙ sym (append_assoc (line (a, y)) (flat_map line (enumerate_from (a + 1) (take i xs))) (line (a + suc i, x)))

-- the first lines are a prefix of all
pub lines_front : {X : Type 0} (line : ℕ × X → List ℕ) (a i : ℕ) (xs : List X) → IsPrefix (flat_map line (enumerate_from a (take i xs))) (flat_map line (enumerate_from a xs))
lines_front {X} line a zero xs = (flat_map line (enumerate_from a xs), refl)
lines_front {X} line a (suc i) [] = ([], refl)
lines_front {X} line a (suc i) (y ∷ xs) =
    let (rest, is) = lines_front line (a + 1) i xs in
    (rest, ap (λ l. line (a, y) ++ l) is ∙ sym (append_assoc (line (a, y)) (flat_map line (enumerate_from (a + 1) (take i xs))) rest))

-- behind a front that is the same
pub front_behind : (front some all : List ℕ) → IsPrefix some all → IsPrefix (front ++ some) (front ++ all)
front_behind front some all (rest, is) = (rest, ap (λ l. front ++ l) is ∙ sym (append_assoc front some rest))

-- one more behind a front
pub behind_front : (front some line more : List ℕ) → more ≡ some ++ line → front ++ more ≡ (front ++ some) ++ line
behind_front front some line more is = ap (λ l. front ++ l) is ∙ sym (append_assoc front some line)

-- an item that was read
pub read_at : (items : List ℕ) (i x : ℕ) → i < length items → x ≡ slice_index items i → slice_get items i ≡ Some x
read_at [] i x within is = absurd (omega arith)
read_at (y ∷ items) zero x within is = ap (λ (n : ℕ). Some n) (sym is)
read_at (y ∷ items) (suc i) x within is = read_at items i x (omega arith) is

-- ---- a loop over numbered lines

module _ {X : Type 0} (line : ℕ × X → List ℕ) (front : List ℕ) (xs : List X) (i : ℕ) where
  -- its lines up to a place
  abbrev before : ℕ → List ℕ
  before n = front ++ flat_map line (enumerate_from 0 (take n xs))

  -- one turn more
  pub turn_shown : (a b c : Option (List ℕ)) (x : X) (held rest more : List ℕ) → IsShown a b (before i) held → IsShown b c held rest → more ≡ rest ++ line (i, x) → slice_get xs i ≡ Some x → IsShown a c (before (i + 1)) more
  turn_shown a b c x held rest more first next put at =
      let e : i + 1 ≡ suc i = omega arith in
      let z : 0 + i ≡ i = omega arith in
      let is : before (i + 1) ≡ before i ++ line (i, x) =
      behind_front front (flat_map line (enumerate_from 0 (take i xs))) (line (i, x)) (flat_map line (enumerate_from 0 (take (i + 1) xs)))
      (ap (λ n. flat_map line (enumerate_from 0 (take n xs))) e ∙ lines_more line 0 i x xs at ∙ ap (λ n. flat_map line (enumerate_from 0 (take i xs)) ++ line (n, x)) z) in
      shown_line {a = a} {b = b} {c = c} {text = before i} {held = held} {rest = rest} (line (i, x)) more (before (i + 1)) first next put is

  -- a turn that fails
  pub turn_cut : (a b c : Option (List ℕ)) (held : List ℕ) → IsShown a b (before i) held → AppendsPrefix b c held → AppendsPrefix a c (front ++ flat_map line (enumerate_from 0 xs))
  turn_cut a b c held first cut =
      shown_cut {a = a} {b = b} {text = before i} {held = held} c (front ++ flat_map line (enumerate_from 0 xs)) first cut
      (front_behind front (flat_map line (enumerate_from 0 (take i xs))) (flat_map line (enumerate_from 0 xs)) (lines_front line 0 i xs))

  -- after the last turn
  pub turns_shown : (a b : Option (List ℕ)) (held : List ℕ) → length xs ≤ i → IsShown a b (before i) held → IsShown a b (front ++ flat_map line (enumerate_from 0 xs)) held
  turns_shown a b held end shown = subst (λ ys. IsShown a b (front ++ flat_map line (enumerate_from 0 ys)) held) (take_all i xs end) shown

-- ---- an end

-- a failure in what follows
pub then_cut : {a b : Option (List ℕ)} {text held : List ℕ} (c : Option (List ℕ)) (more : List ℕ) → IsShown a b text held → AppendsPrefix b c (held ++ more) → AppendsPrefix a c (text ++ more)
then_cut {a} {b} {text} {held} c more first (part, (rest, split), after) = (
  first.part ++ part,
  (rest, ap (λ l. l ++ more) first.split ∙ append_assoc first.part held more ∙ ap (λ l. first.part ++ l) split ∙ sym (append_assoc first.part part rest)),
  Appends-trans a b c first.part part first.written after,
)

-- a failure before what follows
pub cut_before : (a b : Option (List ℕ)) (text more : List ℕ) → AppendsPrefix a b text → AppendsPrefix a b (text ++ more)
cut_before a b text more (part, (rest, split), after) = (part, (rest ++ more, ap (λ l. l ++ more) split ∙ append_assoc part rest more), after)

-- what is held is written
pub end_written : {T E : Type 0} (r : Result T E) (a b c : Option (List ℕ)) (text held bytes whole : List ℕ) → whole ≡ text → bytes ≡ held → IsShown a b text held → OnOk r (Appends b c bytes) → OnOk r (Appends a c whole)
end_written (Ok x) a b c text held bytes whole is same first last =
    subst (Appends a c) (sym (is ∙ first.split)) (Appends-trans a b c first.part held first.written (subst (Appends b c) same last))
end_written (Err e) a b c text held bytes whole is same first last = tt

-- or a prefix of it is
pub end_cut : {T E : Type 0} (r : Result T E) (a b c : Option (List ℕ)) (text held bytes whole : List ℕ) → whole ≡ text → bytes ≡ held → IsShown a b text held → OnErr r (AppendsPrefix b c bytes) → OnErr r (AppendsPrefix a c whole)
end_cut (Ok x) a b c text held bytes whole is same first cut = tt
end_cut (Err e) a b c text held bytes whole is same first cut =
    shown_cut {a = a} {b = b} {text = text} {held = held} c whole first (subst (AppendsPrefix b c) same cut) ([], is ∙ sym (append-nil text))

-- a failure before the end of a longer text
pub cut_longer : (a b : Option (List ℕ)) (text whole : List ℕ) → AppendsPrefix a b text → IsPrefix text whole → AppendsPrefix a b whole
cut_longer a b text whole (part, (rest, split), after) (more, is) = (part, (rest ++ more, is ∙ ap (λ l. l ++ more) split ∙ append_assoc part rest more), after)

-- ---- a loop over texts

-- one more
texts_more : {X : Type 0} (lines : X → List ℕ) (i : ℕ) (x : X) (xs : List X) → slice_get xs i ≡ Some x → flat_map lines (take (suc i) xs) ≡ flat_map lines (take i xs) ++ lines x
texts_more {X} lines i x [] at = absurd cc
texts_more {X} lines zero x (y ∷ xs) at = let same : y ≡ x = cc in append-nil (lines y) ∙ (λ k. lines (same k))
texts_more {X} lines (suc i) x (y ∷ xs) at =
    ap (λ l. lines y ++ l) (texts_more lines i x xs at) ∙ sym (append_assoc (lines y) (flat_map lines (take i xs)) (lines x))

-- the first are a prefix of all
texts_front : {X : Type 0} (lines : X → List ℕ) (i : ℕ) (xs : List X) → IsPrefix (flat_map lines (take i xs)) (flat_map lines xs)
texts_front {X} lines zero xs = (flat_map lines xs, refl)
texts_front {X} lines (suc i) [] = ([], refl)
texts_front {X} lines (suc i) (y ∷ xs) =
    let (rest, is) = texts_front lines i xs in
    (rest, ap (λ l. lines y ++ l) is ∙ sym (append_assoc (lines y) (flat_map lines (take i xs)) rest))

module _ {X : Type 0} (lines : X → List ℕ) (front : List ℕ) (xs : List X) (i : ℕ) where
  -- the texts up to one
  abbrev up_to : ℕ → List ℕ
  up_to n = front ++ flat_map lines (take n xs)

  next_text : (n : ℕ) (x : X) → n ≡ i + 1 → slice_get xs i ≡ Some x → up_to n ≡ up_to i ++ lines x
  next_text n x next at =
      let e : n ≡ suc i = omega arith in
      behind_front front (flat_map lines (take i xs)) (lines x) (flat_map lines (take n xs))
      (ap (λ m. flat_map lines (take m xs)) e ∙ texts_more lines i x xs at)

  -- one more is shown
  pub text_shown : (n : ℕ) (a b c : Option (List ℕ)) (x : X) (held more : List ℕ) → n ≡ i + 1 → IsShown a b (up_to i) held → IsShown b c (held ++ lines x) more → slice_get xs i ≡ Some x → IsShown a c (up_to n) more
  text_shown n a b c x held more next first then at =
      subst (λ (whole : List ℕ). IsShown a c whole more) (sym (next_text n x next at))
      (shown_on {a = a} {b = b} {text = up_to i} {held = held} c (lines x) more first then)

  -- one more fails
  pub text_cut : (a b c : Option (List ℕ)) (x : X) (held : List ℕ) → IsShown a b (up_to i) held → AppendsPrefix b c (held ++ lines x) → slice_get xs i ≡ Some x → AppendsPrefix a c (front ++ flat_map lines xs)
  text_cut a b c x held first cut at =
      cut_longer a c (up_to (i + 1)) (front ++ flat_map lines xs)
      (subst (AppendsPrefix a c) (sym (next_text (i + 1) x refl at)) (then_cut {a = a} {b = b} {text = up_to i} {held = held} c (lines x) first cut))
      (front_behind front (flat_map lines (take (i + 1) xs)) (flat_map lines xs) (texts_front lines (i + 1) xs))

  -- after the last one
  pub texts_shown : (a b : Option (List ℕ)) (held : List ℕ) → length xs ≤ i → IsShown a b (up_to i) held → IsShown a b (front ++ flat_map lines xs) held
  texts_shown a b held end shown = subst (λ (ys : List X). IsShown a b (front ++ flat_map lines ys) held) (take_all i xs end) shown

-- ---- a last part

-- it was shown behind what is held
pub last_shown : {T E : Type 0} (r : Result T E) (a b c : Option (List ℕ)) (text held more rest whole : List ℕ) → whole ≡ text ++ more → IsShown a b text held → OnOk r (IsShown b c (held ++ more) rest) → OnOk r (IsShown a c whole rest)
last_shown (Ok x) a b c text held more rest whole is first last =
    subst (λ (l : List ℕ). IsShown a c l rest) (sym is) (shown_on {a = a} {b = b} {text = text} {held = held} c more rest first last)
last_shown (Err e) a b c text held more rest whole is first last = tt

-- or a prefix of it was
pub last_cut : {T E : Type 0} (r : Result T E) (a b c : Option (List ℕ)) (text held more whole : List ℕ) → whole ≡ text ++ more → IsShown a b text held → OnErr r (AppendsPrefix b c (held ++ more)) → OnErr r (AppendsPrefix a c whole)
last_cut (Ok x) a b c text held more whole is first cut = tt
last_cut (Err e) a b c text held more whole is first cut =
    subst (AppendsPrefix a c) (sym is) (then_cut {a = a} {b = b} {text = text} {held = held} c more first cut)
