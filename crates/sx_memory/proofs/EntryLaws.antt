-- Entries by name: one that is looked up, one that is changed and one that comes behind.
use Rattle.std.proofs.Common.{◌≡◌, ◌≢◌, ℕ, zero, suc, ◌<◌, ◌≤◌, max, nat_lt, ◌==◌, Bool, true, false, cond, List, [], ◌∷◌, ◌++◌, length, get_or, Option, Some, None, IfSome, arith, refl, sym, ap, ◌∙◌, inl, inr}
use Rattle.std.proofs.Math.ListN.{set}
use Rattle.std.specs.Prelude.{unwrap_or, option_and_then, slice_get}
use Rattle.std.proofs.lemmas.Bool.{cases_lt}
use Rattle.std.proofs.lemmas.Bool.Decides.{nat_tests}
use Rattle.std.proofs.lemmas.Slice.Eq.{bytes_eq-Decides}
use Rattle.std.proofs.lemmas.Option.{get_or_from_slice_get, slice_get-get_or, slice_get_within}
use Rattle.std.proofs.lemmas.List.Folds.{find-set, find_at, position_or_len-set}
use Rattle.std.proofs.lemmas.List.Sums.{passes_at_first}
use Rattle.std.specs.List.{find, position_or_len}
use Rattle.std.specs.Str.{bytes_eq}
use Rattle.sx_spec.specs.World.{KeepsFiles, SetsFile}
use Rattle.sx_memory.specs.declared.entry.Entry.{Entry}
use Rattle.sx_memory.specs.declared.in_use.InUse.TheVariants.{Writing}
use Rattle.sx_edge.specs.Shelf.{AppendsFile}
use Rattle.sx_memory.specs.InUse.{holds_of, is_placed, name_of}
use Rattle.sx_memory.specs.Entries.{bytes_in, room_in, bytes_of, is_named, place_named, files_of, room_of}

-- ---- lists

get_past : {X : Type 0} (xs : List X) (i : ℕ) → length xs ≤ i → slice_get xs i ≡ None
get_past [] i past = refl
get_past (x ∷ xs) zero past = absurd (omega arith)
get_past (x ∷ xs) (suc i) past = get_past xs i (omega arith)

find_set_other : {X : Type 0} (p : X → Bool) (xs : List X) (i : ℕ) (y d : X) → p y ≡ false → p (get_or xs i d) ≡ false → find p (set xs i y) ≡ find p xs
find_set_other p [] i y d new old = refl
find_set_other p (x ∷ xs) zero y d new old = rw (new, old) refl
find_set_other p (x ∷ xs) (suc i) y d new old = ap (λ o. cond (p x) (Some x) o) (find_set_other p xs i y d new old)

find_push_other : {X : Type 0} (p : X → Bool) (xs : List X) (y : X) → p y ≡ false → find p (xs ++ y ∷ []) ≡ find p xs
find_push_other p [] y new = rw new refl
find_push_other p (x ∷ xs) y new = ap (λ o. cond (p x) (Some x) o) (find_push_other p xs y new)

find_push_none : {X : Type 0} (p : X → Bool) (xs : List X) (y : X) → p y ≡ true → find p xs ≡ None → find p (xs ++ y ∷ []) ≡ Some y
find_push_none p [] y new none = rw new refl
find_push_none p (x ∷ xs) y new none = by (p x) none (find_push_none p xs y new)
  where
    by : (b : Bool) → cond b (Some x) (find p xs) ≡ None → (find p xs ≡ None → find p (xs ++ y ∷ []) ≡ Some y) → cond b (Some x) (find p (xs ++ y ∷ [])) ≡ Some y
    by true none later = absurd cc
    by false none later = later none

-- ---- names

same_name : (name : List ℕ) (entry : Entry) → entry.name.items ≡ name → is_named name entry ≡ true
same_name name entry is = (bytes_eq-Decides entry.name.items name).1 is

other_name : (name other : List ℕ) (entry : Entry) → entry.name.items ≡ name → other ≢ name → is_named other entry ≡ false
other_name name other entry is ne = by (is_named other entry) (bytes_eq-Decides entry.name.items other).0
  where
    by : (b : Bool) → (b ≡ true → entry.name.items ≡ other) → b ≡ false
    by false same = refl
    by true same = absurd (ne (sym (same refl) ∙ is))

-- ---- look-ups

-- a place that was found
pub record StandsAt (name : List ℕ) (entries : List Entry) (place : ℕ) (entry : Entry) : Type 0 where
  pub at : slice_get entries place ≡ Some entry
  pub within : place < length entries
  pub first : place ≡ position_or_len (is_named name) entries
  pub found : find (is_named name) entries ≡ Some entry
  pub named : entry.name.items ≡ name

place_cases : (n m i : ℕ) → cond (nat_lt n m) (Some n) None ≡ Some i → (n < m) × (n ≡ i)
place_cases n m i e = elim (cases_lt n m) [
  | inl below ↦ let t : nat_lt n m ≡ true = grind (arith, nat_tests) in let s : Some n ≡ Some i = rw t at e in (below, cc)
  | inr above ↦ let t : nat_lt n m ≡ false = grind (arith, nat_tests) in let s : None ≡ Some i = rw t at e in absurd cc
]

none_cases : (n m : ℕ) → cond (nat_lt n m) (Some n) None ≡ None → m ≤ n
none_cases n m e = elim (cases_lt n m) [
  | inl below ↦ let t : nat_lt n m ≡ true = grind (arith, nat_tests) in let s : Some n ≡ None = rw t at e in absurd cc
  | inr above ↦ above
]

pub stands_at : (name : List ℕ) (entries : List Entry) (place : ℕ) (entry : Entry) → place_named name entries ≡ Some place → entry ≡ get_or entries place entry → StandsAt name entries place entry
stands_at name entries place entry e is =
    let p = place_cases (position_or_len (is_named name) entries) (length entries) place e in
    let here : slice_get entries place ≡ Some entry = slice_get-get_or entries place entry (omega (arith, p.0, p.1)) ∙ ap (λ (x : Entry). Some x) (sym is) in
    let passes : is_named name (get_or entries (position_or_len (is_named name) entries) entry) ≡ true = passes_at_first (is_named name) entries entry p.0 in
    record {
      at = here;
      within = omega (arith, p.0, p.1);
      first = sym p.1;
      found = find_at (is_named name) entries ∙ rw (← p.1) at here;
      named = (bytes_eq-Decides entry.name.items name).0 (rw (p.1, ← is) at passes);
    }

pub no_entry : (name : List ℕ) (entries : List Entry) → place_named name entries ≡ None → find (is_named name) entries ≡ None
no_entry name entries e = find_at (is_named name) entries ∙ get_past entries (position_or_len (is_named name) entries) (none_cases (position_or_len (is_named name) entries) (length entries) e)

holds_true : (test : Entry → Bool) (o : Option Entry) → holds_of test o ≡ true → (entry : Entry) × (o ≡ Some entry) × (test entry ≡ true)
holds_true test None e = absurd cc
holds_true test (Some entry) e = (entry, refl, e)

-- ---- the file in use

-- a file that is written stands at the first place of its name
pub writes_at : (entries : List Entry) (file : ℕ) (entry : Entry) → entry ≡ get_or entries file entry → is_placed (Writing file) entries ≡ true → StandsAt entry.name.items entries file entry
writes_at entries file entry is placed =
    let h = holds_true (λ e. position_or_len (is_named e.name.items) entries == file) (slice_get entries file) placed in
    let same : entry ≡ h.0 = is ∙ get_or_from_slice_get entries file h.0 entry h.1 in
    let here : slice_get entries file ≡ Some entry = h.1 ∙ ap (λ (x : Entry). Some x) (sym same) in
    let place : position_or_len (is_named entry.name.items) entries ≡ file = rw same (grind (arith, nat_tests, h.2)) in
    record {
      at = here;
      within = slice_get_within entries file entry here;
      first = sym place;
      found = find_at (is_named entry.name.items) entries ∙ rw place here;
      named = refl;
    }

-- ---- an entry that is changed, under the same name

get_set : (entries : List Entry) (place : ℕ) (now : Entry) → place < length entries → slice_get (set entries place now) place ≡ Some now
get_set [] place now within = absurd (omega arith)
get_set (x ∷ entries) zero now within = refl
get_set (x ∷ entries) (suc place) now within = get_set entries place now (omega arith)

pub find_changed : {name : List ℕ} {entries : List Entry} {place : ℕ} {was : Entry} → StandsAt name entries place was → (now : Entry) → now.name.items ≡ was.name.items → find (is_named name) (set entries place now) ≡ Some now
find_changed {name} {entries} {place} {was} s now same = find-set (is_named name) entries place now s.first s.within (same_name name now (same ∙ s.named))

pub find_other : {name : List ℕ} {entries : List Entry} {place : ℕ} {was : Entry} → StandsAt name entries place was → (now : Entry) → now.name.items ≡ was.name.items → (other : List ℕ) → other ≢ name → find (is_named other) (set entries place now) ≡ find (is_named other) entries
find_other {name} {entries} {place} {was} s now same other ne =
    let here : get_or entries place was ≡ was = get_or_from_slice_get entries place was was s.at in
    find_set_other (is_named other) entries place now was (other_name name other now (same ∙ s.named) ne) (rw here (other_name name other was s.named ne))

by_name : (name other : List ℕ) (P : Type 0) → (other ≡ name → P) → (other ≢ name → P) → P
by_name name other P this that = by (bytes_eq other name) (bytes_eq-Decides other name)
  where
    by : (b : Bool) → (b ≡ true → other ≡ name) × (other ≡ name → b ≡ true) → P
    by true h = this (h.0 refl)
    by false h = that (λ e. let t : false ≡ true = h.1 e in absurd cc)

-- what is the same of the two entries is the same under each name
pub same_under : {Y : Type 0} (f : Option Entry → Y) {name : List ℕ} {entries : List Entry} {place : ℕ} {was : Entry} → StandsAt name entries place was → (now : Entry) → now.name.items ≡ was.name.items → f (Some now) ≡ f (Some was) → (other : List ℕ) → f (find (is_named other) (set entries place now)) ≡ f (find (is_named other) entries)
same_under f {name} {entries} {place} {was} s now same e other = by_name name other (f (find (is_named other) (set entries place now)) ≡ f (find (is_named other) entries))
    (λ is. rw is (ap f (find_changed s now same) ∙ e ∙ sym (ap f s.found)))
    (λ ne. ap f (find_other s now same other ne))

pub sets_file : {name : List ℕ} {entries : List Entry} {place : ℕ} {was : Entry} → StandsAt name entries place was → (now : Entry) → now.name.items ≡ was.name.items → (bytes : List ℕ) → bytes_of now ≡ Some bytes → SetsFile name bytes (Some (files_of entries)) (Some (files_of (set entries place now)))
sets_file {name} {entries} {place} {was} s now same bytes is = (
  ap (λ (o : Option Entry). option_and_then bytes_of o) (find_changed s now same) ∙ is,
  λ other ne. ap (λ (o : Option Entry). option_and_then bytes_of o) (find_other s now same other ne),
)

pub still_placed : {name : List ℕ} {entries : List Entry} {place : ℕ} {was : Entry} → StandsAt name entries place was → (now : Entry) → now.name.items ≡ was.name.items → is_placed (Writing place) (set entries place now) ≡ true
still_placed {name} {entries} {place} {was} s now same =
    let here : get_or entries place was ≡ was = get_or_from_slice_get entries place was was s.at in
    let alike : is_named name now ≡ is_named name (get_or entries place was) = same_name name now (same ∙ s.named) ∙ sym (rw here (same_name name was s.named)) in
    let at_name : position_or_len (is_named name) (set entries place now) ≡ place = position_or_len-set (is_named name) entries place now was alike ∙ sym s.first in
    let first : position_or_len (is_named now.name.items) (set entries place now) ≡ place = ap (λ (n : List ℕ). position_or_len (is_named n) (set entries place now)) (same ∙ s.named) ∙ at_name in
    rw (get_set entries place now s.within) (grind (arith, nat_tests, first))

pub still_named : {name : List ℕ} {entries : List Entry} {place : ℕ} {was : Entry} → StandsAt name entries place was → (now : Entry) → now.name.items ≡ was.name.items → name_of (Writing place) (set entries place now) ≡ Some name
still_named {name} {entries} {place} {was} s now same = rw (get_set entries place now s.within, same, s.named) refl

-- ---- a file that grows

grown_bytes : (was now : Entry) (part : List ℕ) → now.there ≡ was.there → bytes_in now ≡ bytes_in was ++ part → IfSome (bytes_of was) (λ bytes. bytes_of now ≡ Some (bytes ++ part))
grown_bytes was now part there is = by was.there now.there there
  where
    by : (a b : Bool) → b ≡ a → IfSome (cond a (Some (bytes_in was)) None) (λ bytes. cond b (Some (bytes_in now)) None ≡ Some (bytes ++ part))
    by false b e = tt
    by true b e = rw (e, is) refl

pub appends_file : {entries : List Entry} {file : ℕ} {was : Entry} → StandsAt was.name.items entries file was → (now : Entry) (part : List ℕ) → now.name.items ≡ was.name.items → now.there ≡ was.there → bytes_in now ≡ bytes_in was ++ part → AppendsFile (name_of (Writing file) entries) (Some (files_of entries)) (Some (files_of (set entries file now))) part
appends_file {entries} {file} {was} s now part same there is =
    let file_is : files_of entries was.name.items ≡ bytes_of was = ap (λ (o : Option Entry). option_and_then bytes_of o) s.found in
    rw (s.at, file_is) (grows (bytes_of was) (grown_bytes was now part there is))
  where
    grows : (o : Option (List ℕ)) → IfSome o (λ bytes. bytes_of now ≡ Some (bytes ++ part)) → IfSome o (λ bytes. SetsFile was.name.items (bytes ++ part) (Some (files_of entries)) (Some (files_of (set entries file now))))
    grows None h = tt
    grows (Some bytes) h = sets_file s now same (bytes ++ part) h

-- ---- an entry that comes behind the others

pub find_pushed : (name : List ℕ) (entries : List Entry) (entry : Entry) → place_named name entries ≡ None → entry.name.items ≡ name → find (is_named name) (entries ++ entry ∷ []) ≡ Some entry
find_pushed name entries entry none same = find_push_none (is_named name) entries entry (same_name name entry same) (no_entry name entries none)

pub find_pushed_other : (name : List ℕ) (entries : List Entry) (entry : Entry) → entry.name.items ≡ name → (other : List ℕ) → other ≢ name → find (is_named other) (entries ++ entry ∷ []) ≡ find (is_named other) entries
find_pushed_other name entries entry same other ne = find_push_other (is_named other) entries entry (other_name name other entry same ne)

pub push_keeps_files : (name : List ℕ) (entries : List Entry) (entry : Entry) → place_named name entries ≡ None → entry.name.items ≡ name → entry.there ≡ false → KeepsFiles (Some (files_of entries)) (Some (files_of (entries ++ entry ∷ [])))
push_keeps_files name entries entry none same there = λ other. by_name name other (files_of (entries ++ entry ∷ []) other ≡ files_of entries other)
    (λ is. rw (is, find_pushed name entries entry none same, no_entry name entries none, there) refl)
    (λ ne. ap (λ (o : Option Entry). option_and_then bytes_of o) (find_pushed_other name entries entry same other ne))

pub push_makes_room : (name : List ℕ) (entries : List Entry) (entry : Entry) (size : ℕ) → place_named name entries ≡ None → entry.name.items ≡ name → room_in entry ≡ size → room_of (entries ++ entry ∷ []) name ≡ Some (max (unwrap_or (room_of entries name) 0) size)
push_makes_room name entries entry size none same is =
    let least : max 0 size ≡ size = omega arith in
    rw (find_pushed name entries entry none same, no_entry name entries none, is, least) refl
