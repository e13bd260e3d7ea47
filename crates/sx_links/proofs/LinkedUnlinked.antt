-- The numbers of links after a seat was taken out of its list.
use Rattle.std.proofs.Common.{◌≡◌, ℕ, suc, ◌+◌, ◌-◌, ◌<◌, ◌≤◌, List, ◌++◌, length, get_or, set, map, take, drop, sym, ap, subst, ◌∙◌, arith, Some, None}
use Rattle.std.proofs.lemmas.List.{length-set, map-set}
use Rattle.sx_links.specs.declared.Seat.{Seat}
use Rattle.sx_links.specs.Seats.{IsTaken, without}
use Rattle.sx_links.specs.Chains.{place_of, linked, first_without}
use Rattle.sx_links.specs.Linked.{seat_at, place_at, owner_list, FlatNet, net_of, lists_of, IsFlatNet}
use Rattle.sx_links.proofs.Nets.{AreLists, lists_are, Stands, stands}
use Rattle.sx_links.proofs.Unlinking.{unlinked_net, unlinked, some_len, next_below, before_below, lists_without}
use Rattle.sx_links.proofs.Linked.{link_place, seat_link, seats_linked, heads_without, owner_one, seats_are, heads_are}
use Rattle.sx_links.proofs.LinkedReads.{flat_seen, seat_inside, flat_owner, flat_owned}
use Rattle.sx_links.proofs.LinkedPushed.{HoldsLists, holds_lists}

module _ (items : ℕ) (flat : FlatNet) (is : IsFlatNet items flat)
    (s : Seat) (item : s.item < items) (hook : s.hook < flat.hooks) (taken : IsTaken (flat_seen items flat) s) where
  abbrev n : ℕ
  n = length flat.owners

  abbrev place : ℕ
  place = place_of flat.hooks s

  abbrev list : ℕ
  list = get_or flat.owners (place_of flat.hooks s) 0 - 1

  abbrev before : ℕ
  before = get_or flat.befores (place_of flat.hooks s) 0

  abbrev later : ℕ
  later = get_or flat.afters (place_of flat.hooks s) 0

  are : AreLists items (net_of flat) (lists_of flat)
  are = lists_are items (net_of flat) is.net

  mine : get_or (net_of flat).owners (place_of flat.hooks s) None ≡ Some list
  mine = flat_owner items flat is s item hook ∙ owner_one (get_or flat.owners place 0) (flat_owned items flat is s item hook taken)

  abbrev at : Stands items (net_of flat) (lists_of flat) are list s
  at = stands items (net_of flat) (lists_of flat) are list s hook mine

  in_seats : place_of flat.hooks s < length flat.owners
  in_seats = seat_inside items flat is s item hook

  -- the list is one of those
  pub owner_inside : get_or flat.owners (place_of flat.hooks s) 0 - 1 < length flat.lens
  owner_inside = let low = at.inside in let e = heads_are items flat is in omega arith

  pub some_seat : 1 ≤ get_or flat.lens (get_or flat.owners (place_of flat.hooks s) 0 - 1) 0
  some_seat = some_len items (net_of flat) (lists_of flat) are list s item hook mine at

  before_is : get_or (net_of flat).befores place None ≡ seat_at flat.hooks before
  before_is = let e = is.befores in seat_link flat.hooks n flat.befores place in_seats (omega arith)

  later_is : get_or (net_of flat).afters place None ≡ seat_at flat.hooks later
  later_is = let e = is.afters in seat_link flat.hooks n flat.afters place in_seats (omega arith)

  -- the places of the seats on both sides, if there are any
  pub before_small : (k : ℕ) → get_or flat.befores (place_of flat.hooks s) 0 ≡ suc k → k < length flat.owners
  before_small k e =
      link_place flat.hooks before k e n
      (λ q has. let below = before_below items (net_of flat) (lists_of flat) are list s item hook mine at q (before_is ∙ has) in let size = seats_are items flat is in omega arith)

  pub later_small : (k : ℕ) → get_or flat.afters (place_of flat.hooks s) 0 ≡ suc k → k < length flat.owners
  later_small k e =
      link_place flat.hooks later k e n
      (λ m has. let below = next_below items (net_of flat) (lists_of flat) are list s item hook mine at m (later_is ∙ has) in let size = seats_are items flat is in omega arith)

  abbrev pub unlinked_flat : FlatNet
  unlinked_flat = record {
    hooks = flat.hooks;
    lens = set flat.lens list (get_or flat.lens list 0 - 1);
    owners = set flat.owners place 0;
    befores = set flat.befores (place_at later (n + list)) before;
    afters = set flat.afters (place_at before (n + list)) later;
  }

  size : length (set flat.owners (place_of flat.hooks s) 0) ≡ length flat.owners
  size = length-set flat.owners (place_of flat.hooks s) 0

  firsts_are : map (seat_at flat.hooks) (drop (length unlinked_flat.owners) unlinked_flat.afters)
      ≡ set (net_of flat).firsts list (first_without (get_or (net_of flat).befores place None) (get_or (net_of flat).afters place None) (get_or (net_of flat).firsts list None))
  firsts_are =
      ap (λ m. map (seat_at flat.hooks) (drop m unlinked_flat.afters)) size
      ∙ heads_without flat.hooks n flat.afters before list later before_small
      ∙ ap (λ p. set (net_of flat).firsts list (first_without p (seat_at flat.hooks later) (get_or (net_of flat).firsts list None))) (sym before_is)
      ∙ ap (λ p. set (net_of flat).firsts list (first_without (get_or (net_of flat).befores place None) p (get_or (net_of flat).firsts list None))) (sym later_is)

  befores_are : map (seat_at flat.hooks) (take (length unlinked_flat.owners) unlinked_flat.befores)
      ≡ linked flat.hooks (get_or (net_of flat).afters place None) (get_or (net_of flat).befores place None) (net_of flat).befores
  befores_are =
      ap (λ m. map (seat_at flat.hooks) (take m unlinked_flat.befores)) size
      ∙ seats_linked flat.hooks n flat.befores later list before later_small
      ∙ ap (λ p. linked flat.hooks p (seat_at flat.hooks before) (net_of flat).befores) (sym later_is)
      ∙ ap (λ p. linked flat.hooks (get_or (net_of flat).afters place None) p (net_of flat).befores) (sym before_is)

  afters_are : map (seat_at flat.hooks) (take (length unlinked_flat.owners) unlinked_flat.afters)
      ≡ linked flat.hooks (get_or (net_of flat).befores place None) (get_or (net_of flat).afters place None) (net_of flat).afters
  afters_are =
      ap (λ m. map (seat_at flat.hooks) (take m unlinked_flat.afters)) size
      ∙ seats_linked flat.hooks n flat.afters before list later before_small
      ∙ ap (λ p. linked flat.hooks p (seat_at flat.hooks later) (net_of flat).afters) (sym before_is)
      ∙ ap (λ p. linked flat.hooks (get_or (net_of flat).befores place None) p (net_of flat).afters) (sym later_is)

  net_is : net_of unlinked_flat ≡ unlinked_net items (net_of flat) (lists_of flat) are list s item hook mine at
  net_is =
      let firsts = firsts_are in
      let owners = map-set owner_list flat.owners place 0 in
      let befores = befores_are in
      let afters = afters_are in
      λ i. record {
        hooks = flat.hooks;
        firsts = firsts i;
        lens = set flat.lens list (get_or flat.lens list 0 - 1);
        owners = owners i;
        befores = befores i;
        afters = afters i;
      }

  pub unlink_holds : HoldsLists items unlinked_flat (map (without s) (lists_of flat))
  unlink_holds =
      let seats = size in
      let lens = length-set flat.lens list (get_or flat.lens list 0 - 1) in
      let befores = length-set flat.befores (place_at later (n + list)) before in
      let afters = length-set flat.afters (place_at before (n + list)) later in
      let before_size = is.befores in
      let after_size = is.afters in
      let few = is.few in
      subst (HoldsLists items unlinked_flat) (lists_without items (net_of flat) (lists_of flat) are list s item hook mine at)
      (holds_lists items unlinked_flat (unlinked_net items (net_of flat) (lists_of flat) are list s item hook mine at) (set (lists_of flat) list (at.xs ++ at.ys))
      net_is (unlinked items (net_of flat) (lists_of flat) are list s item hook mine at) (omega arith) (omega arith) (omega arith))

  -- the numbers as the code makes them
  pub unlink_made : (p owner head back forth from to len : ℕ) (befores afters : List ℕ)
      → p ≡ place_of flat.hooks s → owner ≡ get_or flat.owners (place_of flat.hooks s) 0 → head ≡ length flat.owners + (owner - 1)
      → from ≡ get_or flat.befores (place_of flat.hooks s) 0 → to ≡ get_or flat.afters (place_of flat.hooks s) 0
      → back ≡ place_at to head → forth ≡ place_at from head → len ≡ get_or flat.lens (get_or flat.owners (place_of flat.hooks s) 0 - 1) 0
      → befores ≡ set flat.befores back from → afters ≡ set flat.afters forth to
      → HoldsLists items (record {
        hooks = flat.hooks;
        lens = set flat.lens (owner - 1) (len - 1);
        owners = set flat.owners p 0;
        befores = befores;
        afters = afters;
      }) (map (without s) (lists_of flat))
  unlink_made p owner head back forth from to len befores afters p_is owner_is head_is from_is to_is back_is forth_is len_is befores_is afters_is =
      rw (befores_is, afters_is, back_is, forth_is, from_is, to_is, head_is, len_is, owner_is, p_is) unlink_holds
