-- Links as numbers, and the links between seats that they stand for.
use Rattle.std.proofs.Common.{◌≡◌, ℕ, zero, suc, ◌+◌, ◌-◌, ◌*◌, ◌/◌, ◌%◌, ◌<◌, ◌≤◌, List, length, get_or, set, map, take, drop, refl, sym, ap, subst, ◌∙◌, arith, Some, None, add-one}
use Rattle.std.proofs.lemmas.Nat.{div-mul-add, mod-mul-add, div-add-mod'}
use Rattle.std.proofs.lemmas.List.{get_or-map, get_or-take, get_or-drop, length-map, length-take-le, length-drop, map-set, take-set-le, drop-set-lt, drop-set-add, set-get_or}
use Rattle.std.proofs.Math.Seq.{take-set-lt, map-set_same}
use Rattle.sx_links.specs.declared.Seat.{Seat}
use Rattle.sx_links.specs.Chains.{place_of, linked, first_without}
use Rattle.sx_links.specs.declared.places.Neighbours.{Neighbours}
use Rattle.sx_links.specs.Linked.{befores_of, afters_of, seat_at, place_at, owner_list, FlatNet, net_of, IsFlatNet}

-- ---- links and seats

pub place_back : (hooks place : ℕ) (s : Seat) → seat_at hooks (suc place) ≡ Some s → place_of hooks s ≡ place
place_back hooks place s is =
    let e : ◌≡◌ {A = Seat} (record { item = place / hooks; hook = place % hooks }) s = cc in
    sym (ap (place_of hooks) e) ∙ div-add-mod' place hooks

pub seat_back : (hooks : ℕ) (s : Seat) → s.hook < hooks → seat_at hooks (place_of hooks s + 1) ≡ Some s
seat_back hooks s hook =
    ap (seat_at hooks) (add-one (place_of hooks s))
    ∙ (let items = div-mul-add s.item hooks s.hook hook in
    let hooks_same = mod-mul-add s.item hooks s.hook hook in
    λ i. Some (record { item = items i; hook = hooks_same i }))

-- the place of a link to a seat
pub link_place : (hooks link place : ℕ) → link ≡ suc place → (bound : ℕ) → ((s : Seat) → seat_at hooks link ≡ Some s → place_of hooks s < bound) → place < bound
link_place hooks link place is bound below =
    subst (λ n. n < bound) (place_back hooks place _ refl) (below _ (ap (seat_at hooks) is))

-- a link leads to a seat, or to the head of a list
pub place_at_below : (link n j bound : ℕ) → ((place : ℕ) → link ≡ suc place → place < n) → n + j < bound → place_at link (n + j) < bound
place_at_below zero n j bound small head = head
place_at_below (suc place) n j bound small head = let e = small place refl in omega arith

-- ---- what is read

module _ (hooks n : ℕ) (links : List ℕ) where
  -- of a seat
  pub seat_link : (place : ℕ) → place < n → n ≤ length links → get_or (map (seat_at hooks) (take n links)) place None ≡ seat_at hooks (get_or links place 0)
  seat_link place within long =
      get_or-map (seat_at hooks) (take n links) place 0 None (let e = length-take-le n links long in omega arith)
      ∙ ap (seat_at hooks) (get_or-take n links place 0 within)

  -- of the head of a list
  pub head_link : (j : ℕ) → n + j < length links → get_or (map (seat_at hooks) (drop n links)) j None ≡ seat_at hooks (get_or links (n + j) 0)
  head_link j within =
      get_or-map (seat_at hooks) (drop n links) j 0 None (let e = length-drop n links in omega arith)
      ∙ ap (seat_at hooks) (get_or-drop n links j 0)

  -- ---- what is set

  -- the links of seats, where one is set at a seat or at a head
  pub seats_linked : (link j to : ℕ) → ((place : ℕ) → link ≡ suc place → place < n)
      → map (seat_at hooks) (take n (set links (place_at link (n + j)) to)) ≡ linked hooks (seat_at hooks link) (seat_at hooks to) (map (seat_at hooks) (take n links))
  seats_linked zero j to small = ap (map (seat_at hooks)) (take-set-le n links (n + j) to (omega arith))
  seats_linked (suc place) j to small =
      ap (map (seat_at hooks)) (take-set-lt n links place to (small place refl))
      ∙ map-set (seat_at hooks) (take n links) place to
      ∙ ap (λ k. set (map (seat_at hooks) (take n links)) k (seat_at hooks to)) (sym (place_back hooks place _ refl))

  pub seats_set : (place to : ℕ) → place < n → map (seat_at hooks) (take n (set links place to)) ≡ set (map (seat_at hooks) (take n links)) place (seat_at hooks to)
  seats_set place to within = ap (map (seat_at hooks)) (take-set-lt n links place to within) ∙ map-set (seat_at hooks) (take n links) place to

  pub seats_stay : (j to : ℕ) → map (seat_at hooks) (take n (set links (n + j) to)) ≡ map (seat_at hooks) (take n links)
  seats_stay j to = ap (map (seat_at hooks)) (take-set-le n links (n + j) to (omega arith))

  pub heads_set : (j to : ℕ) → map (seat_at hooks) (drop n (set links (n + j) to)) ≡ set (map (seat_at hooks) (drop n links)) j (seat_at hooks to)
  heads_set j to = ap (map (seat_at hooks)) (drop-set-add n links j to) ∙ map-set (seat_at hooks) (drop n links) j to

  pub heads_stay : (place to : ℕ) → place < n → map (seat_at hooks) (drop n (set links place to)) ≡ map (seat_at hooks) (drop n links)
  heads_stay place to within = ap (map (seat_at hooks)) (drop-set-lt n links place to within)

  -- the first seats, where the link of what stood before a seat was set
  pub heads_without : (before j to : ℕ) → ((place : ℕ) → before ≡ suc place → place < n)
      → map (seat_at hooks) (drop n (set links (place_at before (n + j)) to))
      ≡ set (map (seat_at hooks) (drop n links)) j (first_without (seat_at hooks before) (seat_at hooks to) (get_or (map (seat_at hooks) (drop n links)) j None))
  heads_without zero j to small = heads_set j to
  heads_without (suc place) j to small =
      heads_stay place to (small place refl) ∙ sym (set-get_or (map (seat_at hooks) (drop n links)) j None)

-- ---- what is read of two neighbours

pub before_read : (ns : List Neighbours) (i : ℕ) (r : Neighbours) → i < length ns → r ≡ get_or ns i r → r.before ≡ get_or (befores_of ns) i 0
before_read ns i r within read = ap (λ (n : Neighbours). n.before) read ∙ sym (get_or-map (λ (n : Neighbours). n.before) ns i r 0 within)

pub after_read : (ns : List Neighbours) (i : ℕ) (r : Neighbours) → i < length ns → r ≡ get_or ns i r → r.after ≡ get_or (afters_of ns) i 0
after_read ns i r within read = ap (λ (n : Neighbours). n.after) read ∙ sym (get_or-map (λ (n : Neighbours). n.after) ns i r 0 within)

-- ---- one neighbour is set

module _ (ns : List Neighbours) (place link : ℕ) (r : Neighbours) (read : r ≡ get_or ns place r) where
  pub before_set : befores_of (set ns place (record { before = link; after = r.after })) ≡ set (befores_of ns) place link
  before_set = map-set (λ (n : Neighbours). n.before) ns place (record { before = link; after = r.after })

  pub before_set_only : afters_of (set ns place (record { before = link; after = r.after })) ≡ afters_of ns
  before_set_only = map-set_same (λ (n : Neighbours). n.after) ns place (record { before = link; after = r.after }) r (ap (λ (n : Neighbours). n.after) read)

  pub after_set : afters_of (set ns place (record { before = r.before; after = link })) ≡ set (afters_of ns) place link
  after_set = map-set (λ (n : Neighbours). n.after) ns place (record { before = r.before; after = link })

  pub after_set_only : befores_of (set ns place (record { before = r.before; after = link })) ≡ befores_of ns
  after_set_only = map-set_same (λ (n : Neighbours). n.before) ns place (record { before = r.before; after = link }) r (ap (λ (n : Neighbours). n.before) read)

-- ---- owners

pub owner_at : (owners : List ℕ) (place : ℕ) → place < length owners → get_or (map owner_list owners) place None ≡ owner_list (get_or owners place 0)
owner_at owners place within = get_or-map owner_list owners place 0 None within

pub owner_above : (owner j : ℕ) → owner_list owner ≡ Some j → owner ≡ j + 1
owner_above zero j is = absurd cc
owner_above (suc k) j is = let e : k ≡ j = cc in omega arith

pub owner_one : (owner : ℕ) → 0 < owner → owner_list owner ≡ Some (owner - 1)
owner_one zero some = absurd (omega arith)
owner_one (suc k) some = ap Some (omega arith)

pub owner_made : (j : ℕ) → owner_list (j + 1) ≡ Some j
owner_made j = ap owner_list (add-one j)

-- ---- sizes

module _ (items : ℕ) (flat : FlatNet) (is : IsFlatNet items flat) where
  pub seats_are : length flat.owners ≡ items * flat.hooks
  seats_are = sym (length-map flat.owners owner_list) ∙ is.net.owners

  pub heads_are : length (net_of flat).firsts ≡ length flat.lens
  heads_are = sym is.net.lens

  -- seats and heads of lists in the vector of links
  pub links_are : (ns : List Neighbours) → flat.afters ≡ afters_of ns → length ns ≡ length flat.owners + length flat.lens
  links_are ns e = sym (length-map ns (λ (n : Neighbours). n.after)) ∙ sym (ap length e) ∙ is.afters
