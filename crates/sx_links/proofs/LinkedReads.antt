-- What each call reads from links as numbers, in terms of their lists.
use Rattle.std.proofs.Common.{◌≡◌, ℕ, zero, suc, ◌+◌, ◌-◌, ◌*◌, ◌^◌, ◌<◌, ◌≤◌, List, [], ◌∷◌, length, get_or, map, take, drop, refl, sym, ap, subst, ◌∙◌, arith, Some, None, Option}
use Rattle.std.specs.Prelude.{replicate, slice_get, SomeIff}
use Rattle.std.proofs.lemmas.List.{length-replicate, take-replicate, drop-replicate}
use Rattle.sx_links.specs.declared.Seat.{Seat}
use Rattle.sx_links.specs.declared.places.Neighbours.{Neighbours}
use Rattle.sx_links.specs.Seats.{Lists, LiesOn, IsTaken, IsListOf, after}
use Rattle.sx_links.specs.Chains.{place_of, Net, IsNet, IsChain, walks}
use Rattle.sx_links.specs.Linked.{befores_of, afters_of, lone, seat_at, owner_list, FlatNet, flat_of, net_of, lists_of, IsFlatNet}
use Rattle.sx_links.proofs.Chains.{place_below}
use Rattle.sx_links.proofs.Nets.{lists_are}
use Rattle.sx_links.proofs.Calls.{list_below, first_is, len_is, next_is, list_of_is, taken_owner, empty_net, empty_lists}
use Rattle.sx_links.proofs.Linked.{seat_link, head_link, owner_at, seats_are, heads_are}

-- the lists of links, as callers see them
abbrev pub flat_seen : ℕ → FlatNet → Lists
flat_seen items flat = record { items = items; hooks = flat.hooks; lists = lists_of flat }

module _ (items : ℕ) (flat : FlatNet) (is : IsFlatNet items flat) where
  -- ---- where they stand

  pub seat_inside : (s : Seat) → s.item < items → s.hook < flat.hooks → place_of flat.hooks s < length flat.owners
  seat_inside s item hook =
      let below = place_below items flat.hooks s item hook in
      let size = seats_are items flat is in
      omega arith

  pub list_inside : (j : ℕ) → j < length (lists_of flat) → j < length flat.lens
  list_inside j within =
      let low = list_below items (net_of flat) is.net j within in
      let size = heads_are items flat is in
      omega arith

  -- ---- what a list has

  pub flat_len : (j : ℕ) → j < length (lists_of flat) → get_or flat.lens j 0 ≡ length (get_or (lists_of flat) j [])
  flat_len j within = len_is items (net_of flat) is.net j within

  pub flat_first : (j : ℕ) → j < length (lists_of flat) → seat_at flat.hooks (get_or flat.afters (length flat.owners + j) 0) ≡ slice_get (get_or (lists_of flat) j []) 0
  flat_first j within =
      let low = list_inside j within in
      let size = is.afters in
      sym (head_link flat.hooks (length flat.owners) flat.afters j (omega arith)) ∙ first_is items (net_of flat) is.net j within

  -- where there is a first seat, there are hooks
  pub first_hooks : (j : ℕ) → j < length (lists_of flat) → 0 < get_or flat.afters (length flat.owners + j) 0 → 0 < flat.hooks
  first_hooks j within some =
      let low = list_below items (net_of flat) is.net j within in
      by_link (get_or flat.afters (length flat.owners + j) 0) refl (get_or (lists_of flat) j []) ((lists_are items (net_of flat) is.net).chain j low)
    where
      by_link : (link : ℕ) → get_or flat.afters (length flat.owners + j) 0 ≡ link → (seats : List Seat)
          → IsChain items flat.hooks (net_of flat).owners (net_of flat).befores (net_of flat).afters j None (get_or (net_of flat).firsts j None) seats → 0 < flat.hooks
      by_link zero e seats chain = absurd (omega arith)
      by_link (suc place) e [] chain =
          let low = list_inside j within in
          let size = is.afters in
          let read = head_link flat.hooks (length flat.owners) flat.afters j (omega arith) in
          let none : seat_at flat.hooks (suc place) ≡ None = ap (seat_at flat.hooks) (sym e) ∙ sym read ∙ chain in
          absurd (let apart = none in cc)
      by_link (suc place) e (s ∷ later) chain = let hook = chain.1.hook in omega arith

  -- ---- what a seat has

  pub flat_next : (s : Seat) → s.item < items → s.hook < flat.hooks → (j : ℕ) → LiesOn (flat_seen items flat) j s
      → seat_at flat.hooks (get_or flat.afters (place_of flat.hooks s) 0) ≡ after s (get_or (lists_of flat) j [])
  flat_next s item hook j lies =
      let size = is.afters in
      sym (seat_link flat.hooks (length flat.owners) flat.afters (place_of flat.hooks s) (seat_inside s item hook) (omega arith))
      ∙ next_is items (net_of flat) is.net s hook j lies

  pub flat_owner : (s : Seat) → s.item < items → s.hook < flat.hooks → get_or (net_of flat).owners (place_of flat.hooks s) None ≡ owner_list (get_or flat.owners (place_of flat.hooks s) 0)
  flat_owner s item hook = owner_at flat.owners (place_of flat.hooks s) (seat_inside s item hook)

  pub flat_list_of : (s : Seat) → s.item < items → s.hook < flat.hooks → (result : Option ℕ)
      → SomeIff result (1 ≤ get_or flat.owners (place_of flat.hooks s) 0) (get_or flat.owners (place_of flat.hooks s) 0 - 1)
      → IsListOf (flat_seen items flat) s result
  flat_list_of s item hook result cases =
      subst (IsListOf (flat_seen items flat) s) (flat_owner s item hook ∙ sym (by_cases result (get_or flat.owners (place_of flat.hooks s) 0) cases))
      (list_of_is items (net_of flat) is.net s hook)
    where
      by_cases : (result : Option ℕ) (owner : ℕ) → SomeIff result (1 ≤ owner) (owner - 1) → result ≡ owner_list owner
      by_cases None zero cases = refl
      by_cases None (suc j) cases = absurd (cases (omega arith))
      by_cases (Some k) zero cases = absurd (omega (arith, cases.0))
      by_cases (Some k) (suc j) cases = ap Some (omega (arith, cases.1))

  -- a seat that is taken has an owner
  pub flat_owned : (s : Seat) → s.item < items → s.hook < flat.hooks → IsTaken (flat_seen items flat) s → 0 < get_or flat.owners (place_of flat.hooks s) 0
  flat_owned s item hook taken = by_owner (get_or flat.owners (place_of flat.hooks s) 0) refl
    where
      by_owner : (owner : ℕ) → get_or flat.owners (place_of flat.hooks s) 0 ≡ owner → 0 < owner
      by_owner zero e = absurd (taken_owner items (net_of flat) is.net s taken (flat_owner s item hook ∙ ap owner_list e))
      by_owner (suc j) e = omega arith

-- ---- empty lists

map_none : {X Y : Type 0} (f : X → Y) (x : X) (n : ℕ) → map f (replicate n x) ≡ replicate n (f x)
map_none f x zero = refl
map_none f x (suc n) = ap (λ ys. f x ∷ ys) (map_none f x n)

module _ (items lists hooks : ℕ) (ns : List Neighbours) (are : ns ≡ replicate (items * hooks + lists) lone) where
  abbrev pub empty : FlatNet
  empty = flat_of hooks (replicate lists 0) (replicate (items * hooks) 0) ns

  seats : length {A = ℕ} (replicate (items * hooks) 0) ≡ items * hooks
  seats = length-replicate {A = ℕ} (items * hooks) 0

  befores_are : befores_of ns ≡ replicate (items * hooks + lists) 0
  befores_are = ap befores_of are ∙ map_none (λ (n : Neighbours). n.before) lone (items * hooks + lists)

  afters_are : afters_of ns ≡ replicate (items * hooks + lists) 0
  afters_are = ap afters_of are ∙ map_none (λ (n : Neighbours). n.after) lone (items * hooks + lists)

  no_links : (links : List ℕ) → links ≡ replicate (items * hooks + lists) 0
      → map (seat_at hooks) (take (length {A = ℕ} (replicate (items * hooks) 0)) links) ≡ replicate (items * hooks) None
  no_links links are =
      ap (map (seat_at hooks))
      (ap (λ n. take n links) seats ∙ ap (take (items * hooks)) are ∙ take-replicate (items * hooks) (items * hooks + lists) 0 (omega arith))
      ∙ map_none (seat_at hooks) 0 (items * hooks)

  no_firsts : map (seat_at hooks) (drop (length {A = ℕ} (replicate (items * hooks) 0)) (afters_of ns)) ≡ replicate lists None
  no_firsts =
      ap (map (seat_at hooks))
      (ap (λ n. drop n (afters_of ns)) seats ∙ ap (drop (items * hooks)) afters_are ∙ drop-replicate (items * hooks) (items * hooks + lists) 0
      ∙ ap (λ n. replicate n 0) (let few : items * hooks + lists - items * hooks ≡ lists = omega arith in few))
      ∙ map_none (seat_at hooks) 0 lists

  abbrev none : Net
  none = record {
    hooks = hooks;
    firsts = replicate lists None;
    lens = replicate lists 0;
    owners = replicate (items * hooks) None;
    befores = replicate (items * hooks) None;
    afters = replicate (items * hooks) None;
  }

  empty_is : net_of empty ≡ none
  empty_is =
      let firsts = no_firsts in
      let owners = map_none owner_list 0 (items * hooks) in
      let before = no_links (befores_of ns) befores_are in
      let later = no_links (afters_of ns) afters_are in
      λ i. record {
        hooks = hooks;
        firsts = firsts i;
        lens = replicate lists 0;
        owners = owners i;
        befores = before i;
        afters = later i;
      }

  pub empty_flat : items * hooks < 2 ^ 32 → lists < 2 ^ 32 → IsFlatNet items empty
  empty_flat small few =
      let heads = length-replicate {A = ℕ} lists 0 in
      let links = length-replicate {A = ℕ} (items * hooks + lists) 0 in
      record {
        net = subst (IsNet items) (sym empty_is) (empty_net items lists hooks small);
        befores = ap length befores_are ∙ (let n = seats in omega arith);
        afters = ap length afters_are ∙ (let n = seats in omega arith);
        few = omega arith;
      }

  pub no_lists : lists_of empty ≡ replicate lists []
  no_lists = ap (λ (net : Net). walks net.hooks net.afters net.firsts net.lens) empty_is ∙ empty_lists hooks (replicate (items * hooks) None) lists
