-- The links of lists after a seat was taken out of one.
use Rattle.std.proofs.Common.{◌≡◌, ◌≢◌, ℕ, ◌-◌, ◌*◌, ◌<◌, ◌≤◌, cond, List, [], ◌∷◌, ◌++◌, length, get_or, set, map, sym, ap, subst, ◌∙◌, arith, inl, inr, Some, None, Option}
use Rattle.std.specs.Prelude.{is_some}
use Rattle.std.specs.List.{AllByRecursion}
use Rattle.std.proofs.lemmas.Bool.{cases_eq}
use Rattle.std.proofs.lemmas.List.{get_or-set_same, get_or-set_other, length-set, length-map, get_or-map, same_lists, length-append, get_or_default}
use Rattle.std.proofs.lemmas.List.Sums.{sum_by-set}
use Rattle.sx_links.specs.declared.Seat.{Seat}
use Rattle.sx_links.specs.Seats.{without}
use Rattle.sx_links.specs.Chains.{place_of, Net, linked, first_without, IsChain, HasPlace}
use Rattle.sx_links.proofs.Chains.{place_below, has_place_without, without_none, without_between, chain_owned, chain_places, earlier_in, next_in, all_more, all_behind}
use Rattle.sx_links.proofs.Pushed.{length-linked}
use Rattle.sx_links.proofs.Unlinked.{AreUnlinked, are_unlinked, unlinked_chain, other_stays}
use Rattle.sx_links.proofs.Nets.{each_set, AreLists, Stands, apart, counted_some}

module _ (items : ℕ) (net : Net) (lists : List (List Seat)) (are : AreLists items net lists)
    (j : ℕ) (s : Seat) (item : s.item < items) (hook : s.hook < net.hooks) (mine : get_or net.owners (place_of net.hooks s) None ≡ Some j) (at : Stands items net lists are j s) where
  abbrev pub unlinked_net : Net
  unlinked_net = record {
    hooks = net.hooks;
    firsts = set net.firsts j (first_without (get_or net.befores (place_of net.hooks s) None) (get_or net.afters (place_of net.hooks s) None) (get_or net.firsts j None));
    lens = set net.lens j (get_or net.lens j 0 - 1);
    owners = set net.owners (place_of net.hooks s) None;
    befores = linked net.hooks (get_or net.afters (place_of net.hooks s) None) (get_or net.befores (place_of net.hooks s) None) net.befores;
    afters = linked net.hooks (get_or net.befores (place_of net.hooks s) None) (get_or net.afters (place_of net.hooks s) None) net.afters;
  }

  in_owners : place_of net.hooks s < length net.owners
  in_owners = let e = are.owners in let below = place_below items net.hooks s item hook in omega arith

  in_lens : j < length net.lens
  in_lens = let e = are.lens in let h = at.inside in omega arith

  in_lists : j < length lists
  in_lists = let e = are.count in let h = at.inside in omega arith

  are_new : AreUnlinked items net.hooks net.owners net.befores net.afters s (set net.owners (place_of net.hooks s) None)
      (linked net.hooks (get_or net.afters (place_of net.hooks s) None) (get_or net.befores (place_of net.hooks s) None) net.befores)
      (linked net.hooks (get_or net.befores (place_of net.hooks s) None) (get_or net.afters (place_of net.hooks s) None) net.afters)
  are_new = are_unlinked items net.hooks net.owners net.befores net.afters s are.owners are.befores are.afters (place_below items net.hooks s item hook)

  all_owned : AllByRecursion (λ t. get_or net.owners (place_of net.hooks t) None ≡ Some j) (at.xs ++ s ∷ at.ys)
  all_owned = chain_owned items net.hooks net.owners net.befores net.afters j None (get_or net.firsts j None) (at.xs ++ s ∷ at.ys) at.chain

  next_owned : (m : Seat) → get_or net.afters (place_of net.hooks s) None ≡ Some m → get_or net.owners (place_of net.hooks m) None ≡ Some j
  next_owned m is = next_in items net.hooks net.owners net.befores net.afters j (λ t. get_or net.owners (place_of net.hooks t) None ≡ Some j) None (get_or net.firsts j None) at.xs s at.ys m at.chain is
      (all_behind (λ t. get_or net.owners (place_of net.hooks t) None ≡ Some j) at.xs s at.ys all_owned)

  before_owned : (q : Seat) → get_or net.befores (place_of net.hooks s) None ≡ Some q → get_or net.owners (place_of net.hooks q) None ≡ Some j
  before_owned q is = from_chain at.xs at.chain all_owned
    where
      from_chain : (xs : List Seat) → IsChain items net.hooks net.owners net.befores net.afters j None (get_or net.firsts j None) (xs ++ s ∷ at.ys)
          → AllByRecursion (λ t. get_or net.owners (place_of net.hooks t) None ≡ Some j) (xs ++ s ∷ at.ys) → get_or net.owners (place_of net.hooks q) None ≡ Some j
      from_chain [] chain all = absurd (let both : Some q ≡ None = sym is ∙ chain.1.before in cc)
      from_chain (x ∷ xs) chain all =
          earlier_in items net.hooks net.owners net.befores net.afters j (λ t. get_or net.owners (place_of net.hooks t) None ≡ Some j) None (get_or net.firsts j None) x xs s at.ys q chain is all

  owned_after : (place k : ℕ) → get_or (set net.owners (place_of net.hooks s) None) place None ≡ Some k
      → (k < length net.firsts) × HasPlace net.hooks place (get_or (set lists j (at.xs ++ at.ys)) k [])
  owned_after place k is =
      elim (cases_eq place (place_of net.hooks s)) [
        | inl same ↦
            let own : get_or (set net.owners (place_of net.hooks s) None) place None ≡ None =
            ap (λ p. get_or (set net.owners (place_of net.hooks s) None) p None) same ∙ get_or-set_same net.owners (place_of net.hooks s) None None in_owners in
            absurd (let both : Some k ≡ None = sym is ∙ own in cc)
        | inr differ ↦
            let (within, has) = are.owned place k (sym (get_or-set_other net.owners (place_of net.hooks s) place None None differ) ∙ is) in (
              within,
              elim (cases_eq k j) [
                | inl list ↦
                    let has_j : HasPlace net.hooks place (at.xs ++ s ∷ at.ys) = subst (HasPlace net.hooks place) (ap (λ n. get_or lists n []) list ∙ at.seats) has in
                    subst (λ n. HasPlace net.hooks place (get_or (set lists j (at.xs ++ at.ys)) n [])) (sym list)
                    (rw (get_or-set_same lists j (at.xs ++ at.ys) [] in_lists) (has_place_without net.hooks place at.xs s at.ys (λ same. differ (sym same)) has_j))
                | inr other ↦ rw (get_or-set_other lists j k (at.xs ++ at.ys) [] other) has
              ],
            )
      ]

  pub some_len : 1 ≤ get_or net.lens j 0
  some_len =
      let e = are.len j at.inside in
      let n = ap length at.seats in
      let split = length-append at.xs (s ∷ at.ys) in
      omega arith

  pub unlinked : AreLists items unlinked_net (set lists j (at.xs ++ at.ys))
  unlinked = record {
    small = are.small;
    count = length-set lists j (at.xs ++ at.ys) ∙ are.count ∙ sym (length-set net.firsts j (first_without (get_or net.befores (place_of net.hooks s) None) (get_or net.afters (place_of net.hooks s) None) (get_or net.firsts j None)));
    lens = length-set net.lens j (get_or net.lens j 0 - 1) ∙ are.lens ∙ sym (length-set net.firsts j (first_without (get_or net.befores (place_of net.hooks s) None) (get_or net.afters (place_of net.hooks s) None) (get_or net.firsts j None)));
    owners = length-set net.owners (place_of net.hooks s) None ∙ are.owners;
    befores = length-linked net.hooks (get_or net.afters (place_of net.hooks s) None) (get_or net.befores (place_of net.hooks s) None) net.befores ∙ are.befores;
    afters = length-linked net.hooks (get_or net.befores (place_of net.hooks s) None) (get_or net.afters (place_of net.hooks s) None) net.afters ∙ are.afters;
    chain = λ k within.
        each_set (λ n x ys. n < length net.firsts → IsChain items net.hooks unlinked_net.owners unlinked_net.befores unlinked_net.afters n None x ys) net.firsts lists j
        (first_without (get_or net.befores (place_of net.hooks s) None) (get_or net.afters (place_of net.hooks s) None) (get_or net.firsts j None)) (at.xs ++ at.ys) None [] at.inside in_lists
        (λ h. unlinked_chain items net.hooks net.owners net.befores net.afters j s unlinked_net.owners unlinked_net.befores unlinked_net.afters are_new (get_or net.firsts j None) at.xs at.ys at.chain
        (first_without (get_or net.befores (place_of net.hooks s) None) (get_or net.afters (place_of net.hooks s) None) (get_or net.firsts j None))
        (λ none. ap (λ p. first_without p (get_or net.afters (place_of net.hooks s) None) (get_or net.firsts j None)) none)
        (λ q some. ap (λ p. first_without p (get_or net.afters (place_of net.hooks s) None) (get_or net.firsts j None)) some))
        (λ n differ h. other_stays items net.hooks net.owners net.befores net.afters j s unlinked_net.owners unlinked_net.befores unlinked_net.afters are_new n differ mine next_owned before_owned (get_or net.firsts n None) (get_or lists n []) (are.chain n h))
        k (let e = length-set net.firsts j (first_without (get_or net.befores (place_of net.hooks s) None) (get_or net.afters (place_of net.hooks s) None) (get_or net.firsts j None)) in omega arith);
    len = λ k within.
        each_set (λ n x ys. n < length net.firsts → length ys ≡ x) net.lens lists j (get_or net.lens j 0 - 1) (at.xs ++ at.ys) 0 [] in_lens in_lists
        (λ h. let e = are.len j at.inside in let n = ap length at.seats in let split = length-append at.xs (s ∷ at.ys) in let whole = length-append at.xs at.ys in omega arith)
        (λ n differ h. are.len n h)
        k (let e = length-set net.firsts j (first_without (get_or net.befores (place_of net.hooks s) None) (get_or net.afters (place_of net.hooks s) None) (get_or net.firsts j None)) in omega arith);
    owned = λ place k is. let (within, has) = owned_after place k is in (let e = length-set net.firsts j (first_without (get_or net.befores (place_of net.hooks s) None) (get_or net.afters (place_of net.hooks s) None) (get_or net.firsts j None)) in omega arith, has);
    total =
        let sums = sum_by-set (λ x. x) net.lens j (get_or net.lens j 0 - 1) 0 in_lens in
        let counts = sum_by-set (λ (x : Option ℕ). cond (is_some x) 1 0) net.owners (place_of net.hooks s) None None in_owners in
        let one = counted_some (get_or net.owners (place_of net.hooks s) None) j mine in
        let before = are.total in
        let some = some_len in
        omega arith;
  }

  -- the lists without the seat
  pub lists_without : set lists j (at.xs ++ at.ys) ≡ map (without s) lists
  lists_without =
      let sizes = length-set lists j (at.xs ++ at.ys) in
      let mapped = length-map lists (without s) in
      same_lists (set lists j (at.xs ++ at.ys)) (map (without s) lists) (sizes ∙ sym mapped)
      (λ k d within.
      let inside : k < length lists = omega arith in
      let is : get_or (map (without s) lists) k d ≡ without s (get_or lists k []) = get_or-map (without s) lists k [] d inside in
      elim (cases_eq k j) [
        | inl same ↦
            let stands_apart = apart items net lists are j s at in
            subst (λ n. get_or (set lists j (at.xs ++ at.ys)) n d ≡ without s (get_or lists n [])) (sym same)
            (get_or-set_same lists j (at.xs ++ at.ys) d in_lists
            ∙ sym (ap (without s) at.seats ∙ without_between net.hooks s at.xs at.ys stands_apart.earlier stands_apart.later)) ∙ sym is
        | inr differ ↦
            get_or-set_other lists j k (at.xs ++ at.ys) d differ ∙ get_or_default lists k d [] inside
            ∙ sym (without_none net.hooks s (get_or lists k []) (all_more (λ t. get_or net.owners (place_of net.hooks t) None ≡ Some k) (λ t. place_of net.hooks t ≢ place_of net.hooks s) (get_or lists k [])
            (λ t owned same. let both : Some k ≡ Some j = sym owned ∙ ap (λ p. get_or net.owners p None) same ∙ mine in let e : k ≡ j = cc in absurd (differ e))
            (chain_owned items net.hooks net.owners net.befores net.afters k None (get_or net.firsts k None) (get_or lists k []) (are.chain k (let e = are.count in omega arith)))))
            ∙ sym is
      ])

  -- the links as the code makes them
  pub unlinked_links : (place n : ℕ) (previous next first : Option Seat) (befores afters : List (Option Seat))
      → place ≡ place_of net.hooks s → n ≡ get_or net.lens j 0 → previous ≡ get_or net.befores (place_of net.hooks s) None → next ≡ get_or net.afters (place_of net.hooks s) None
      → first ≡ first_without previous next (get_or net.firsts j None) → befores ≡ linked net.hooks next previous net.befores → afters ≡ linked net.hooks previous next net.afters
      → AreLists items (record {
        hooks = net.hooks;
        firsts = set net.firsts j first;
        lens = set net.lens j (n - 1);
        owners = set net.owners place None;
        befores = befores;
        afters = afters;
      }) (set lists j (at.xs ++ at.ys))
  unlinked_links place n previous next first befores afters place_is n_is previous_is next_is first_is befores_are afters_are =
      rw (first_is, befores_are, afters_are, previous_is, next_is, n_is, place_is) unlinked

  -- the seats before and after are in range
  pub next_below : (m : Seat) → get_or net.afters (place_of net.hooks s) None ≡ Some m → place_of net.hooks m < items * net.hooks
  next_below m is = next_in items net.hooks net.owners net.befores net.afters j (λ t. place_of net.hooks t < items * net.hooks) None (get_or net.firsts j None) at.xs s at.ys m at.chain is
      (all_behind (λ t. place_of net.hooks t < items * net.hooks) at.xs s at.ys
      (chain_places items net.hooks net.owners net.befores net.afters j None (get_or net.firsts j None) (at.xs ++ s ∷ at.ys) at.chain))

  pub before_below : (q : Seat) → get_or net.befores (place_of net.hooks s) None ≡ Some q → place_of net.hooks q < items * net.hooks
  before_below q is = from_chain at.xs at.chain
    where
      from_chain : (xs : List Seat) → IsChain items net.hooks net.owners net.befores net.afters j None (get_or net.firsts j None) (xs ++ s ∷ at.ys) → place_of net.hooks q < items * net.hooks
      from_chain [] chain = absurd (let both : Some q ≡ None = sym is ∙ chain.1.before in cc)
      from_chain (x ∷ xs) chain =
          earlier_in items net.hooks net.owners net.befores net.afters j (λ t. place_of net.hooks t < items * net.hooks) None (get_or net.firsts j None) x xs s at.ys q chain is
          (chain_places items net.hooks net.owners net.befores net.afters j None (get_or net.firsts j None) (x ∷ xs ++ s ∷ at.ys) chain)
