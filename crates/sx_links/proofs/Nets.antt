-- Links and the lists that they are.
use Rattle.std.proofs.Common.{◌≡◌, ◌≢◌, ℕ, zero, suc, ◌*◌, ◌^◌, ◌<◌, cond, List, [], ◌∷◌, ◌++◌, length, get_or, set, refl, sym, ap, subst, ◌∙◌, arith, inl, inr, Some, None, Option}
use Rattle.std.specs.Prelude.{sum, count_by, is_some, Contains}
use Rattle.std.proofs.lemmas.Bool.{cases_eq}
use Rattle.std.proofs.lemmas.List.{get_or-set_same, get_or-set_other, same_lists, get_or_default}
use Rattle.sx_links.specs.declared.Seat.{Seat}
use Rattle.sx_links.specs.Chains.{place_of, Net, walk, walks, list_at, IsChain, HasPlace, IsNet}
use Rattle.sx_links.proofs.Chains.{one_place, place_splits, contains_place, place_contained, has_place_all, walk_chain, chain_owned, chain_hooks, StandsApart, chain_apart, all_middle}

-- ---- the lists of links

pub length-walks : (hooks : ℕ) (a firsts : List (Option Seat)) (lens : List ℕ) → length lens ≡ length firsts → length (walks hooks a firsts lens) ≡ length firsts
length-walks hooks a [] lens same = refl
length-walks hooks a (f ∷ firsts) [] same = absurd (omega arith)
length-walks hooks a (f ∷ firsts) (n ∷ lens) same = ap suc (length-walks hooks a firsts lens (omega arith))

pub get_or-walks : (hooks : ℕ) (a firsts : List (Option Seat)) (lens : List ℕ) (j : ℕ) (d : List Seat) → length lens ≡ length firsts → j < length firsts
    → get_or (walks hooks a firsts lens) j d ≡ walk hooks a (get_or lens j 0) (get_or firsts j None)
get_or-walks hooks a [] lens j d same within = absurd (omega arith)
get_or-walks hooks a (f ∷ firsts) [] j d same within = absurd (omega arith)
get_or-walks hooks a (f ∷ firsts) (n ∷ lens) zero d same within = refl
get_or-walks hooks a (f ∷ firsts) (n ∷ lens) (suc j) d same within = get_or-walks hooks a firsts lens j d (omega arith) (omega arith)

-- what holds at each place of two lists in which one place was set
pub each_set : {X Y : Type 0} (P : ℕ → X → Y → Type 0) (xs : List X) (ys : List Y) (j : ℕ) (x : X) (y : Y) (d : X) (e : Y) → j < length xs → j < length ys
    → P j x y → ((k : ℕ) → k ≢ j → P k (get_or xs k d) (get_or ys k e)) → (k : ℕ) → P k (get_or (set xs j x) k d) (get_or (set ys j y) k e)
each_set P xs ys j x y d e in_xs in_ys here off k =
    elim (cases_eq k j) [
      | inl same ↦ subst (λ n. P n (get_or (set xs j x) n d) (get_or (set ys j y) n e)) (sym same)
          (rw (get_or-set_same xs j x d in_xs, get_or-set_same ys j y e in_ys) here)
      | inr differ ↦ rw (get_or-set_other xs j k x d differ, get_or-set_other ys j k y e differ) (off k differ)
    ]

-- ---- links made for lists

-- the lists that links are to be
pub record AreLists (items : ℕ) (net : Net) (lists : List (List Seat)) : Type 0 where
  pub small : items * net.hooks < 2 ^ 32
  pub count : length lists ≡ length net.firsts
  pub lens : length net.lens ≡ length net.firsts
  pub owners : length net.owners ≡ items * net.hooks
  pub befores : length net.befores ≡ items * net.hooks
  pub afters : length net.afters ≡ items * net.hooks
  pub chain : (j : ℕ) → j < length net.firsts → IsChain items net.hooks net.owners net.befores net.afters j None (get_or net.firsts j None) (get_or lists j [])
  pub len : (j : ℕ) → j < length net.firsts → length (get_or lists j []) ≡ get_or net.lens j 0
  pub owned : (place j : ℕ) → get_or net.owners place None ≡ Some j → (j < length net.firsts) × HasPlace net.hooks place (get_or lists j [])
  pub total : sum net.lens ≡ count_by is_some net.owners

module _ (items : ℕ) (net : Net) (lists : List (List Seat)) (are : AreLists items net lists) where
  list_is : (j : ℕ) → j < length net.firsts → list_at net j ≡ get_or lists j []
  list_is j within =
      ap (λ n. walk net.hooks net.afters n (get_or net.firsts j None)) (sym (are.len j within))
      ∙ walk_chain items net.hooks net.owners net.befores net.afters j None (get_or net.firsts j None) (get_or lists j []) (are.chain j within)

  pub net_of_lists : IsNet items net
  net_of_lists = record {
    small = are.small;
    lens = are.lens;
    owners = are.owners;
    befores = are.befores;
    afters = are.afters;
    chain = λ j within. subst (IsChain items net.hooks net.owners net.befores net.afters j None (get_or net.firsts j None)) (sym (list_is j within)) (are.chain j within);
    len = λ j within. ap length (list_is j within) ∙ are.len j within;
    owned = λ place j is. let (within, has) = are.owned place j is in (within, subst (HasPlace net.hooks place) (sym (list_is j within)) has);
    total = are.total;
  }

  pub walks_are_lists : walks net.hooks net.afters net.firsts net.lens ≡ lists
  walks_are_lists =
      let count = length-walks net.hooks net.afters net.firsts net.lens are.lens in
      same_lists (walks net.hooks net.afters net.firsts net.lens) lists (count ∙ sym are.count)
      (λ k d within.
      let inside : k < length net.firsts = omega arith in
      get_or-walks net.hooks net.afters net.firsts net.lens k d are.lens inside ∙ list_is k inside
      ∙ get_or_default lists k [] d (let e = are.count in omega arith))

-- ---- what links say of their lists

module _ (items : ℕ) (net : Net) (is : IsNet items net) where
  pub lists_are : AreLists items net (walks net.hooks net.afters net.firsts net.lens)
  lists_are = record {
    small = is.small;
    count = length-walks net.hooks net.afters net.firsts net.lens is.lens;
    lens = is.lens;
    owners = is.owners;
    befores = is.befores;
    afters = is.afters;
    chain = λ j within. subst (IsChain items net.hooks net.owners net.befores net.afters j None (get_or net.firsts j None)) (sym (get_or-walks net.hooks net.afters net.firsts net.lens j [] is.lens within)) (is.chain j within);
    len = λ j within. ap length (get_or-walks net.hooks net.afters net.firsts net.lens j [] is.lens within) ∙ is.len j within;
    owned = λ place j at. let (within, has) = is.owned place j at in (within, subst (HasPlace net.hooks place) (sym (get_or-walks net.hooks net.afters net.firsts net.lens j [] is.lens within)) has);
    total = is.total;
  }

module _ (items : ℕ) (net : Net) (lists : List (List Seat)) (are : AreLists items net lists) where
  -- a seat that stands on a list is owned by it
  pub owner_of : (j : ℕ) (s : Seat) → j < length lists → Contains (get_or lists j []) s → get_or net.owners (place_of net.hooks s) None ≡ Some j
  owner_of j s within has =
      let inside : j < length net.firsts = let e = are.count in omega arith in
      has_place_all net.hooks (λ p. get_or net.owners p None ≡ Some j) (place_of net.hooks s) (get_or lists j [])
      (chain_owned items net.hooks net.owners net.befores net.afters j None (get_or net.firsts j None) (get_or lists j []) (are.chain j inside))
      (contains_place net.hooks (get_or lists j []) s has)

  -- and the other way round
  pub stands_on : (j : ℕ) (s : Seat) → s.hook < net.hooks → get_or net.owners (place_of net.hooks s) None ≡ Some j → (j < length lists) × Contains (get_or lists j []) s
  stands_on j s hook owned =
      let (inside, has) = are.owned (place_of net.hooks s) j owned in (
        let e = are.count in omega arith,
        place_contained net.hooks items (get_or lists j []) s hook
            (chain_hooks items net.hooks net.owners net.befores net.afters j None (get_or net.firsts j None) (get_or lists j []) (are.chain j inside)) has,
      )

  -- a seat of the list, between others
  pub record Stands (j : ℕ) (s : Seat) : Type 0 where
    pub inside : j < length net.firsts
    pub xs : List Seat
    pub ys : List Seat
    pub seats : get_or lists j [] ≡ xs ++ s ∷ ys
    pub chain : IsChain items net.hooks net.owners net.befores net.afters j None (get_or net.firsts j None) (xs ++ s ∷ ys)

  pub stands : (j : ℕ) (s : Seat) → s.hook < net.hooks → get_or net.owners (place_of net.hooks s) None ≡ Some j → Stands j s
  stands j s hook owned =
      let (inside, has) = are.owned (place_of net.hooks s) j owned in
      let (xs, t, ys, same, at) = place_splits net.hooks (place_of net.hooks s) (get_or lists j []) has in
      let chain_t : IsChain items net.hooks net.owners net.befores net.afters j None (get_or net.firsts j None) (xs ++ t ∷ ys) =
      subst (IsChain items net.hooks net.owners net.befores net.afters j None (get_or net.firsts j None)) same (are.chain j inside) in
      let small : t.hook < net.hooks = all_middle (λ u. u.hook < net.hooks) xs t ys
      (chain_hooks items net.hooks net.owners net.befores net.afters j None (get_or net.firsts j None) (xs ++ t ∷ ys) chain_t) in
      let e : t ≡ s = one_place net.hooks t s small hook at in
      record {
        inside = inside;
        xs = xs;
        ys = ys;
        seats = same ∙ ap (λ u. xs ++ u ∷ ys) e;
        chain = subst (λ u. IsChain items net.hooks net.owners net.befores net.afters j None (get_or net.firsts j None) (xs ++ u ∷ ys)) e chain_t;
      }

  pub apart : (j : ℕ) (s : Seat) (at : Stands j s) → StandsApart items net.hooks net.owners net.befores net.afters j at.xs s at.ys
  apart j s at = chain_apart items net.hooks net.owners net.befores net.afters j None (get_or net.firsts j None) at.xs s at.ys at.chain

-- an owner counts once
pub counted_none : (x : Option ℕ) → x ≡ None → ◌≡◌ {A = ℕ} (cond (is_some x) 1 0) 0
counted_none None is = refl
counted_none (Some j) is = absurd cc

pub counted_some : (x : Option ℕ) (j : ℕ) → x ≡ Some j → ◌≡◌ {A = ℕ} (cond (is_some x) 1 0) 1
counted_some None j is = absurd cc
counted_some (Some k) j is = refl
