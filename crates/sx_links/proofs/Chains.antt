-- Chains of seats: what stands in them, and what leaves them as they are.
use Rattle.std.proofs.Common.{◌≡◌, ◌≢◌, ℕ, zero, suc, ◌*◌, ◌/◌, ◌%◌, ◌<◌, Bool, true, false, cond, List, [], ◌∷◌, ◌++◌, length, get_or, refl, sym, ap, subst, ◌∙◌, arith, inl, inr, Some, None, Option}
use Rattle.std.specs.Prelude.{◌==◌, ◌&&◌, not, slice_get, Contains, if◌then◌else◌}
use Rattle.std.specs.List.{AllByRecursion}
use Rattle.std.proofs.lemmas.Bool.Decides.{Decides-eqb}
use Rattle.std.proofs.lemmas.Nat.{mul-add-lt, div-mul-add, mod-mul-add}
use Rattle.sx_links.specs.declared.Seat.{Seat}
use Rattle.sx_links.specs.Seats.{same_seat, without, after}
use Rattle.sx_links.specs.Chains.{place_of, walk, IsChain, HasPlace}

pub all_more : {X : Type 0} (P Q : X → Type 0) (xs : List X) → ((x : X) → P x → Q x) → AllByRecursion P xs → AllByRecursion Q xs
all_more P Q [] more all = tt
all_more P Q (x ∷ xs) more all = (more x all.0, all_more P Q xs more all.1)

pub all_without : {X : Type 0} (P : X → Type 0) (xs : List X) (x : X) (ys : List X) → AllByRecursion P (xs ++ x ∷ ys) → AllByRecursion P (xs ++ ys)
all_without P [] x ys all = all.1
all_without P (z ∷ zs) x ys all = (all.0, all_without P zs x ys all.1)

pub all_middle : {X : Type 0} (P : X → Type 0) (xs : List X) (x : X) (ys : List X) → AllByRecursion P (xs ++ x ∷ ys) → P x
all_middle P [] x ys all = all.0
all_middle P (z ∷ zs) x ys all = all_middle P zs x ys all.1

pub all_behind : {X : Type 0} (P : X → Type 0) (xs : List X) (x : X) (ys : List X) → AllByRecursion P (xs ++ x ∷ ys) → AllByRecursion P ys
all_behind P [] x ys all = all.1
all_behind P (z ∷ zs) x ys all = all_behind P zs x ys all.1

pub all_both : {X : Type 0} (P Q : X → Type 0) (xs : List X) → AllByRecursion P xs → AllByRecursion Q xs → AllByRecursion (λ x. P x × Q x) xs
all_both P Q [] p q = tt
all_both P Q (x ∷ xs) p q = ((p.0, q.0), all_both P Q xs p.1 q.1)

-- ---- places

-- a seat in range has a place in range
pub place_below : (items hooks : ℕ) (s : Seat) → s.item < items → s.hook < hooks → place_of hooks s < items * hooks
place_below items hooks s item hook =
    omega (arith, mul-add-lt s.item hooks s.hook items item hook)

-- two seats in range with one place are one
pub one_place : (hooks : ℕ) (s t : Seat) → s.hook < hooks → t.hook < hooks → place_of hooks s ≡ place_of hooks t → s ≡ t
one_place hooks s t hook_s hook_t same =
    let items : s.item ≡ t.item = sym (div-mul-add s.item hooks s.hook hook_s) ∙ ap (λ k. k / hooks) same ∙ div-mul-add t.item hooks t.hook hook_t in
    let hooks_same : s.hook ≡ t.hook = sym (mod-mul-add s.item hooks s.hook hook_s) ∙ ap (λ k. k % hooks) same ∙ mod-mul-add t.item hooks t.hook hook_t in
    λ i. record { item = items i; hook = hooks_same i }

module _ (hooks : ℕ) where
  -- a seat with this place stands between others
  pub place_splits : (place : ℕ) (seats : List Seat) → HasPlace hooks place seats → (xs : List Seat) × (s : Seat) × (ys : List Seat) × (seats ≡ xs ++ s ∷ ys) × (place_of hooks s ≡ place)
  place_splits place [] has = absurd has
  place_splits place (s ∷ later) has = elim has [
    | inl here ↦ ([], s, later, refl, here)
    | inr there ↦ let (xs, t, ys, same, at) = place_splits place later there in (s ∷ xs, t, ys, ap (λ ts. s ∷ ts) same, at)
  ]

  pub contains_place : (seats : List Seat) (s : Seat) → Contains seats s → HasPlace hooks (place_of hooks s) seats
  contains_place [] s (k, within, at) = absurd (omega arith)
  contains_place (t ∷ later) s (zero, within, at) = inl (ap (place_of hooks) at)
  contains_place (t ∷ later) s (suc k, within, at) = inr (contains_place later s (k, omega arith, at))

  pub place_contained : (items : ℕ) (seats : List Seat) (s : Seat) → s.hook < hooks → AllByRecursion (λ t. t.hook < hooks) seats → HasPlace hooks (place_of hooks s) seats → Contains seats s
  place_contained items [] s hook small has = absurd has
  place_contained items (t ∷ later) s hook small has = elim has [
    | inl here ↦ (0, omega arith, one_place hooks t s small.0 hook here)
    | inr there ↦ let (k, within, at) = place_contained items later s hook small.1 there in (suc k, omega arith, at)
  ]

  -- what holds of each seat holds of the one with a place
  pub has_place_all : (P : ℕ → Type 0) (place : ℕ) (seats : List Seat) → AllByRecursion (λ t. P (place_of hooks t)) seats → HasPlace hooks place seats → P place
  has_place_all P place [] all has = absurd has
  has_place_all P place (s ∷ later) all has = elim has [
    | inl here ↦ subst P here all.0
    | inr there ↦ has_place_all P place later all.1 there
  ]

  pub has_place_without : (place : ℕ) (xs : List Seat) (s : Seat) (ys : List Seat) → place_of hooks s ≢ place → HasPlace hooks place (xs ++ s ∷ ys) → HasPlace hooks place (xs ++ ys)
  has_place_without place [] s ys differs has = elim has [ inl here ↦ absurd (differs here) | inr there ↦ there ]
  has_place_without place (x ∷ xs) s ys differs has = elim has [ inl here ↦ inl here | inr there ↦ inr (has_place_without place xs s ys differs there) ]

-- ---- seats that are taken out, or stand after one

same_is : (hooks : ℕ) (s t : Seat) → same_seat s t ≡ true → place_of hooks s ≡ place_of hooks t
same_is hooks s t same =
    let (items, hooks_same) = and_true (s.item == t.item) (s.hook == t.hook) same in
    let i = (Decides-eqb s.item t.item).0 items in
    let h = (Decides-eqb s.hook t.hook).0 hooks_same in
    rw (i, h) refl
  where
    and_true : (p q : Bool) → (p && q) ≡ true → (p ≡ true) × (q ≡ true)
    and_true true q h = (refl, h)
    and_true false q h = absurd cc

same_itself : (s : Seat) → same_seat s s ≡ true
same_itself s = rw ((Decides-eqb s.item s.item).1 refl, (Decides-eqb s.hook s.hook).1 refl) refl

differs_from : (hooks : ℕ) (s t : Seat) → place_of hooks s ≢ place_of hooks t → same_seat s t ≡ false
differs_from hooks s t differ = elim (same_seat s t) as (λ b. same_seat s t ≡ b → b ≡ false) [
  | true ↦ λ e. absurd (differ (same_is hooks s t e))
  | false ↦ λ e. refl
] refl

module _ (hooks : ℕ) (s : Seat) where
  pub without_none : (seats : List Seat) → AllByRecursion (λ t. place_of hooks t ≢ place_of hooks s) seats → without s seats ≡ seats
  without_none [] differ = refl
  without_none (t ∷ later) differ =
      ap (λ b. cond (not b) (t ∷ without s later) (without s later)) (differs_from hooks t s differ.0)
      ∙ ap (λ ts. t ∷ ts) (without_none later differ.1)

  pub without_between : (xs ys : List Seat) → AllByRecursion (λ t. place_of hooks t ≢ place_of hooks s) xs → AllByRecursion (λ t. place_of hooks t ≢ place_of hooks s) ys
      → without s (xs ++ s ∷ ys) ≡ xs ++ ys
  without_between [] ys before later = ap (λ b. cond (not b) (s ∷ without s ys) (without s ys)) (same_itself s) ∙ without_none ys later
  without_between (x ∷ xs) ys before later =
      ap (λ b. cond (not b) (x ∷ without s (xs ++ s ∷ ys)) (without s (xs ++ s ∷ ys))) (differs_from hooks x s before.0)
      ∙ ap (λ ts. x ∷ ts) (without_between xs ys before.1 later)

  pub after_between : (xs ys : List Seat) → AllByRecursion (λ t. place_of hooks t ≢ place_of hooks s) xs → after s (xs ++ s ∷ ys) ≡ slice_get ys 0
  after_between [] ys before = ap (λ b. if b then slice_get ys 0 else after s ys) (same_itself s)
  after_between (x ∷ xs) ys before =
      ap (λ b. if b then slice_get (xs ++ s ∷ ys) 0 else after s (xs ++ s ∷ ys)) (differs_from hooks x s before.0)
      ∙ after_between xs ys before.1

-- ---- what stands in a chain

module _ (items hooks : ℕ) (o : List (Option ℕ)) (b a : List (Option Seat)) (list : ℕ) where
  pub walk_chain : (previous pointer : Option Seat) (seats : List Seat) → IsChain items hooks o b a list previous pointer seats → walk hooks a (length seats) pointer ≡ seats
  walk_chain previous pointer [] chain = refl
  walk_chain previous pointer (s ∷ later) chain =
      ap (walk hooks a (suc (length later))) chain.0
      ∙ ap (λ ts. s ∷ ts) (walk_chain (Some s) (get_or a (place_of hooks s) None) later chain.2)

  pub chain_owned : (previous pointer : Option Seat) (seats : List Seat) → IsChain items hooks o b a list previous pointer seats → AllByRecursion (λ t. get_or o (place_of hooks t) None ≡ Some list) seats
  chain_owned previous pointer [] chain = tt
  chain_owned previous pointer (s ∷ later) chain = (chain.1.owner, chain_owned (Some s) (get_or a (place_of hooks s) None) later chain.2)

  pub chain_hooks : (previous pointer : Option Seat) (seats : List Seat) → IsChain items hooks o b a list previous pointer seats → AllByRecursion (λ t. t.hook < hooks) seats
  chain_hooks previous pointer [] chain = tt
  chain_hooks previous pointer (s ∷ later) chain = (chain.1.hook, chain_hooks (Some s) (get_or a (place_of hooks s) None) later chain.2)

  pub chain_places : (previous pointer : Option Seat) (seats : List Seat) → IsChain items hooks o b a list previous pointer seats → AllByRecursion (λ t. place_of hooks t < items * hooks) seats
  chain_places previous pointer [] chain = tt
  chain_places previous pointer (s ∷ later) chain =
      (place_below items hooks s chain.1.item chain.1.hook, chain_places (Some s) (get_or a (place_of hooks s) None) later chain.2)

  pub chain_first : (previous pointer : Option Seat) (seats : List Seat) → IsChain items hooks o b a list previous pointer seats → pointer ≡ slice_get seats 0
  chain_first previous pointer [] chain = chain
  chain_first previous pointer (s ∷ later) chain = chain.0

  -- the seats before and after one have other places, and its link leads to the next
  pub record StandsApart (xs : List Seat) (s : Seat) (ys : List Seat) : Type 0 where
    pub earlier : AllByRecursion (λ t. place_of hooks t ≢ place_of hooks s) xs
    pub later : AllByRecursion (λ t. place_of hooks t ≢ place_of hooks s) ys
    pub next : get_or a (place_of hooks s) None ≡ slice_get ys 0

  pub chain_apart : (previous pointer : Option Seat) (xs : List Seat) (s : Seat) (ys : List Seat) → IsChain items hooks o b a list previous pointer (xs ++ s ∷ ys) → StandsApart xs s ys
  chain_apart previous pointer [] s ys chain = record {
    earlier = tt;
    later = chain.1.differ;
    next = chain_first (Some s) (get_or a (place_of hooks s) None) ys chain.2;
  }
  chain_apart previous pointer (x ∷ xs) s ys chain =
      let rest = chain_apart (Some x) (get_or a (place_of hooks x) None) xs s ys chain.2 in
      record {
        earlier = ((λ same. all_middle (λ t. place_of hooks t ≢ place_of hooks x) xs s ys chain.1.differ (sym same)), rest.earlier);
        later = rest.later;
        next = rest.next;
      }

  -- what holds of each seat holds of the one before a seat
  pub earlier_in : (P : Seat → Type 0) (previous pointer : Option Seat) (x : Seat) (xs : List Seat) (s : Seat) (ys : List Seat) (q : Seat)
      → IsChain items hooks o b a list previous pointer (x ∷ xs ++ s ∷ ys) → get_or b (place_of hooks s) None ≡ Some q → AllByRecursion P (x ∷ xs ++ s ∷ ys) → P q
  earlier_in P previous pointer x [] s ys q chain before all =
      let same : Some x ≡ Some q = sym chain.2.1.before ∙ before in
      let e : x ≡ q = cc in
      subst P e all.0
  earlier_in P previous pointer x (u ∷ us) s ys q chain before all =
      earlier_in P (Some x) (get_or a (place_of hooks x) None) u us s ys q chain.2 before all.1

  -- what holds of each later seat holds of the next
  pub next_in : (P : Seat → Type 0) (previous pointer : Option Seat) (xs : List Seat) (s : Seat) (ys : List Seat) (m : Seat)
      → IsChain items hooks o b a list previous pointer (xs ++ s ∷ ys) → get_or a (place_of hooks s) None ≡ Some m → AllByRecursion P ys → P m
  next_in P previous pointer [] s [] m chain after all =
      let same : Some m ≡ None = sym after ∙ chain.2 in
      absurd cc
  next_in P previous pointer [] s (y ∷ ys) m chain after all =
      let same : Some y ≡ Some m = sym chain.2.0 ∙ after in
      let e : y ≡ m = cc in
      subst P e all.0
  next_in P previous pointer (x ∷ xs) s ys m chain after all = next_in P (Some x) (get_or a (place_of hooks x) None) xs s ys m chain.2 after all

-- ---- what leaves a chain as it is

-- at this place, links are as they were
abbrev pub IsSameAt : (o changed_o : List (Option ℕ)) (b a changed_b changed_a : List (Option Seat)) → ℕ → Type 0
IsSameAt o changed_o b a changed_b changed_a place =
    (get_or changed_o place None ≡ get_or o place None) × (get_or changed_b place None ≡ get_or b place None) × (get_or changed_a place None ≡ get_or a place None)

pub same_chain : (items hooks : ℕ) (o changed_o : List (Option ℕ)) (b a changed_b changed_a : List (Option Seat)) (list : ℕ) (previous pointer : Option Seat) (seats : List Seat)
    → AllByRecursion (λ t. IsSameAt o changed_o b a changed_b changed_a (place_of hooks t)) seats
    → IsChain items hooks o b a list previous pointer seats → IsChain items hooks changed_o changed_b changed_a list previous pointer seats
same_chain items hooks o changed_o b a changed_b changed_a list previous pointer [] same chain = chain
same_chain items hooks o changed_o b a changed_b changed_a list previous pointer (s ∷ later) same chain = (
  chain.0,
  record {
    item = chain.1.item;
    hook = chain.1.hook;
    owner = same.0.0 ∙ chain.1.owner;
    before = same.0.1 ∙ chain.1.before;
    differ = chain.1.differ;
  },
  subst (λ p. IsChain items hooks changed_o changed_b changed_a list (Some s) p later) (sym same.0.2)
      (same_chain items hooks o changed_o b a changed_b changed_a list (Some s) (get_or a (place_of hooks s) None) later same.1 chain.2),
)
