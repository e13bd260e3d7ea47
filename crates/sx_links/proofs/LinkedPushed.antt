-- The numbers of links after a seat was put first on a list.
use Rattle.std.proofs.Common.{◌≡◌, ℕ, suc, ◌+◌, ◌*◌, ◌^◌, ◌<◌, ◌≤◌, List, [], ◌∷◌, length, get_or, set, map, take, drop, sym, ap, subst, ◌∙◌, arith, Some, None}
use Rattle.std.proofs.lemmas.List.{length-set, map-set}
use Rattle.sx_links.specs.declared.Seat.{Seat}
use Rattle.sx_links.specs.Seats.{IsTaken}
use Rattle.sx_links.specs.Chains.{place_of, Net, linked, IsNet, walks}
use Rattle.sx_links.specs.Linked.{seat_at, place_at, owner_list, FlatNet, net_of, lists_of, IsFlatNet}
use Rattle.sx_links.proofs.Nets.{AreLists, lists_are, net_of_lists, walks_are_lists}
use Rattle.sx_links.proofs.Calls.{free_owner}
use Rattle.sx_links.proofs.Pushing.{pushed_net, pushed, len_small, second_below}
use Rattle.sx_links.proofs.Linked.{seat_back, link_place, head_link, seats_linked, seats_set, seats_stay, heads_set, heads_stay, owner_made, seats_are, heads_are}
use Rattle.sx_links.proofs.LinkedReads.{flat_seen, seat_inside, list_inside}

-- the numbers are those of the lists
pub record HoldsLists (items : ℕ) (flat : FlatNet) (lists : List (List Seat)) : Type 0 where
  pub sound : IsFlatNet items flat
  pub same : lists_of flat ≡ lists

-- links that are the same as those of lists hold the lists
pub holds_lists : (items : ℕ) (flat : FlatNet) (net : Net) (lists : List (List Seat)) → net_of flat ≡ net → AreLists items net lists
    → length flat.befores ≡ length flat.owners + length flat.lens → length flat.afters ≡ length flat.owners + length flat.lens → length flat.lens < 2 ^ 32
    → HoldsLists items flat lists
holds_lists items flat net lists same are befores afters few = record {
  sound = record {
    net = subst (IsNet items) (sym same) (net_of_lists items net lists are);
    befores = befores;
    afters = afters;
    few = few;
  };
  same = ap (λ (n : Net). walks n.hooks n.afters n.firsts n.lens) same ∙ walks_are_lists items net lists are;
}

module _ (items : ℕ) (flat : FlatNet) (is : IsFlatNet items flat) (j : ℕ) (within : j < length (lists_of flat))
    (s : Seat) (item : s.item < items) (hook : s.hook < flat.hooks) (not_taken : ¬ IsTaken (flat_seen items flat) s) where
  abbrev n : ℕ
  n = length flat.owners

  abbrev place : ℕ
  place = place_of flat.hooks s

  abbrev second : ℕ
  second = get_or flat.afters (length flat.owners + j) 0

  are : AreLists items (net_of flat) (lists_of flat)
  are = lists_are items (net_of flat) is.net

  inside : j < length (net_of flat).firsts
  inside = let low = list_inside items flat is j within in let e = heads_are items flat is in omega arith

  free : get_or (net_of flat).owners (place_of flat.hooks s) None ≡ None
  free = free_owner items (net_of flat) is.net s hook not_taken

  second_is : get_or (net_of flat).firsts j None ≡ seat_at flat.hooks second
  second_is = let low = list_inside items flat is j within in let e = is.afters in head_link flat.hooks n flat.afters j (omega arith)

  -- the place of the second seat, if there is one
  pub second_small : (k : ℕ) → get_or flat.afters (length flat.owners + j) 0 ≡ suc k → k < length flat.owners
  second_small k e =
      link_place flat.hooks second k e n
      (λ h at. let below = second_below items (net_of flat) (lists_of flat) are j s item hook inside free h (second_is ∙ at) in let size = seats_are items flat is in omega arith)

  -- a longer list still has a length of 32 bits
  pub len_fits : get_or flat.lens j 0 + 1 ≤ items * flat.hooks
  len_fits = len_small items (net_of flat) (lists_of flat) are j s item hook inside free

  abbrev pub pushed_flat : FlatNet
  pushed_flat = record {
    hooks = flat.hooks;
    lens = set flat.lens j (get_or flat.lens j 0 + 1);
    owners = set flat.owners place (j + 1);
    befores = set (set flat.befores (place_at second (n + j)) (place + 1)) place 0;
    afters = set (set flat.afters place second) (n + j) (place + 1);
  }

  in_seats : place_of flat.hooks s < length flat.owners
  in_seats = seat_inside items flat is s item hook

  size : length (set flat.owners (place_of flat.hooks s) (j + 1)) ≡ length flat.owners
  size = length-set flat.owners (place_of flat.hooks s) (j + 1)

  firsts_are : map (seat_at flat.hooks) (drop (length pushed_flat.owners) pushed_flat.afters) ≡ set (net_of flat).firsts j (Some s)
  firsts_are =
      ap (λ m. map (seat_at flat.hooks) (drop m pushed_flat.afters)) size
      ∙ heads_set flat.hooks n (set flat.afters place second) j (place + 1)
      ∙ ap (λ xs. set xs j (seat_at flat.hooks (place + 1))) (heads_stay flat.hooks n flat.afters place second in_seats)
      ∙ ap (set (net_of flat).firsts j) (seat_back flat.hooks s hook)

  befores_are : map (seat_at flat.hooks) (take (length pushed_flat.owners) pushed_flat.befores)
      ≡ set (linked flat.hooks (get_or (net_of flat).firsts j None) (Some s) (net_of flat).befores) place None
  befores_are =
      ap (λ m. map (seat_at flat.hooks) (take m pushed_flat.befores)) size
      ∙ seats_set flat.hooks n (set flat.befores (place_at second (n + j)) (place + 1)) place 0 in_seats
      ∙ ap (λ xs. set xs place None) (seats_linked flat.hooks n flat.befores second j (place + 1) second_small)
      ∙ ap (λ t. set (linked flat.hooks (seat_at flat.hooks second) t (net_of flat).befores) place None) (seat_back flat.hooks s hook)
      ∙ ap (λ t. set (linked flat.hooks t (Some s) (net_of flat).befores) place None) (sym second_is)

  afters_are : map (seat_at flat.hooks) (take (length pushed_flat.owners) pushed_flat.afters) ≡ set (net_of flat).afters place (get_or (net_of flat).firsts j None)
  afters_are =
      ap (λ m. map (seat_at flat.hooks) (take m pushed_flat.afters)) size
      ∙ seats_stay flat.hooks n (set flat.afters place second) j (place + 1)
      ∙ seats_set flat.hooks n flat.afters place second in_seats
      ∙ ap (set (net_of flat).afters place) (sym second_is)

  owners_are : map owner_list pushed_flat.owners ≡ set (net_of flat).owners place (Some j)
  owners_are = map-set owner_list flat.owners place (j + 1) ∙ ap (set (net_of flat).owners place) (owner_made j)

  net_is : net_of pushed_flat ≡ pushed_net items (net_of flat) (lists_of flat) are j s item hook inside free
  net_is =
      let firsts = firsts_are in
      let owners = owners_are in
      let befores = befores_are in
      let afters = afters_are in
      λ i. record {
        hooks = flat.hooks;
        firsts = firsts i;
        lens = set flat.lens j (get_or flat.lens j 0 + 1);
        owners = owners i;
        befores = befores i;
        afters = afters i;
      }

  pub push_holds : HoldsLists items pushed_flat (set (lists_of flat) j (s ∷ get_or (lists_of flat) j []))
  push_holds =
      let seats = size in
      let lens = length-set flat.lens j (get_or flat.lens j 0 + 1) in
      let linked = length-set flat.befores (place_at second (n + j)) (place + 1) in
      let befores = length-set (set flat.befores (place_at second (n + j)) (place + 1)) place 0 in
      let behind = length-set flat.afters place second in
      let afters = length-set (set flat.afters place second) (n + j) (place + 1) in
      let before_size = is.befores in
      let after_size = is.afters in
      let few = is.few in
      holds_lists items pushed_flat (pushed_net items (net_of flat) (lists_of flat) are j s item hook inside free) (set (lists_of flat) j (s ∷ get_or (lists_of flat) j []))
      net_is (pushed items (net_of flat) (lists_of flat) are j s item hook inside free) (omega arith) (omega arith) (omega arith)

  -- the numbers as the code makes them
  pub push_made : (at head p link len : ℕ) (befores afters : List ℕ)
      → p ≡ place_of flat.hooks s → head ≡ length flat.owners + j → link ≡ get_or flat.afters (length flat.owners + j) 0 → at ≡ place_at link head → len ≡ get_or flat.lens j 0
      → befores ≡ set (set flat.befores at (p + 1)) p 0 → afters ≡ set (set flat.afters p link) head (p + 1)
      → HoldsLists items (record {
        hooks = flat.hooks;
        lens = set flat.lens j (len + 1);
        owners = set flat.owners p (j + 1);
        befores = befores;
        afters = afters;
      }) (set (lists_of flat) j (s ∷ get_or (lists_of flat) j []))
  push_made at head p link len befores afters p_is head_is link_is at_is len_is befores_is afters_is =
      rw (befores_is, afters_is, at_is, link_is, head_is, len_is, p_is) push_holds
