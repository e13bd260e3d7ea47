-- The links of lists after a seat was put first on one.
use Rattle.std.proofs.Common.{◌≡◌, ℕ, ◌+◌, ◌*◌, ◌<◌, ◌≤◌, cond, List, [], ◌∷◌, length, get_or, set, sym, ap, subst, ◌∙◌, arith, inl, inr, Some, None, Option}
use Rattle.std.specs.Prelude.{is_some}
use Rattle.std.proofs.lemmas.Bool.{cases_eq}
use Rattle.std.proofs.lemmas.List.{get_or-set_same, get_or-set_other, length-set}
use Rattle.std.proofs.lemmas.List.Sums.{sum_by-set, get_or-le-sum_by, count_by-le-length}
use Rattle.sx_links.specs.declared.Seat.{Seat}
use Rattle.sx_links.specs.Chains.{place_of, Net, linked, IsChain, HasPlace}
use Rattle.sx_links.proofs.Chains.{place_below}
use Rattle.sx_links.proofs.Pushed.{length-linked, ArePushed, are_pushed, pushed_chain, other_chain}
use Rattle.sx_links.proofs.Nets.{each_set, AreLists, counted_none}

module _ (items : ℕ) (net : Net) (lists : List (List Seat)) (are : AreLists items net lists)
    (j : ℕ) (s : Seat) (item : s.item < items) (hook : s.hook < net.hooks) (inside : j < length net.firsts) (free : get_or net.owners (place_of net.hooks s) None ≡ None) where
  second_owned : (h : Seat) → get_or net.firsts j None ≡ Some h → get_or net.owners (place_of net.hooks h) None ≡ Some j
  second_owned h is = first_owned (get_or lists j []) (are.chain j inside)
    where
      first_owned : (seats : List Seat) → IsChain items net.hooks net.owners net.befores net.afters j None (get_or net.firsts j None) seats → get_or net.owners (place_of net.hooks h) None ≡ Some j
      first_owned [] chain = absurd (let both : Some h ≡ None = sym is ∙ chain in cc)
      first_owned (g ∷ later) chain =
          let both : Some g ≡ Some h = sym chain.0 ∙ is in
          let e : g ≡ h = cc in
          subst (λ t. get_or net.owners (place_of net.hooks t) None ≡ Some j) e chain.1.owner

  abbrev pub pushed_net : Net
  pushed_net = record {
    hooks = net.hooks;
    firsts = set net.firsts j (Some s);
    lens = set net.lens j (get_or net.lens j 0 + 1);
    owners = set net.owners (place_of net.hooks s) (Some j);
    befores = set (linked net.hooks (get_or net.firsts j None) (Some s) net.befores) (place_of net.hooks s) None;
    afters = set net.afters (place_of net.hooks s) (get_or net.firsts j None);
  }

  abbrev new_owners : List (Option ℕ)
  new_owners = set net.owners (place_of net.hooks s) (Some j)

  abbrev new_befores : List (Option Seat)
  new_befores = set (linked net.hooks (get_or net.firsts j None) (Some s) net.befores) (place_of net.hooks s) None

  abbrev new_afters : List (Option Seat)
  new_afters = set net.afters (place_of net.hooks s) (get_or net.firsts j None)

  in_owners : place_of net.hooks s < length net.owners
  in_owners = let e = are.owners in let below = place_below items net.hooks s item hook in omega arith

  in_lens : j < length net.lens
  in_lens = let e = are.lens in omega arith

  in_lists : j < length lists
  in_lists = let e = are.count in omega arith

  are_new : ArePushed items net.hooks net.owners net.befores net.afters j s (get_or net.firsts j None) (set net.owners (place_of net.hooks s) (Some j))
      (set (linked net.hooks (get_or net.firsts j None) (Some s) net.befores) (place_of net.hooks s) None) (set net.afters (place_of net.hooks s) (get_or net.firsts j None))
  are_new = are_pushed items net.hooks net.owners net.befores net.afters j s (get_or net.firsts j None) are.owners are.befores are.afters (place_below items net.hooks s item hook)

  owned_after : (place k : ℕ) → get_or (set net.owners (place_of net.hooks s) (Some j)) place None ≡ Some k
      → (k < length (set net.firsts j (Some s))) × HasPlace net.hooks place (get_or (set lists j (s ∷ get_or lists j [])) k [])
  owned_after place k is =
      let size = length-set net.firsts j (Some s) in
      elim (cases_eq place (place_of net.hooks s)) [
        | inl same ↦
            let own : get_or (set net.owners (place_of net.hooks s) (Some j)) place None ≡ Some j =
            ap (λ p. get_or (set net.owners (place_of net.hooks s) (Some j)) p None) same ∙ get_or-set_same net.owners (place_of net.hooks s) (Some j) None in_owners in
            let both : Some j ≡ Some k = sym own ∙ is in
            let e : j ≡ k = cc in (
              omega arith,
              subst (λ n. HasPlace net.hooks place (get_or (set lists j (s ∷ get_or lists j [])) n [])) e
                  (rw (get_or-set_same lists j (s ∷ get_or lists j []) [] in_lists) (inl (sym same))),
            )
        | inr differ ↦
            let (within, has) = are.owned place k (sym (get_or-set_other net.owners (place_of net.hooks s) place (Some j) None differ) ∙ is) in (
              omega arith,
              elim (cases_eq k j) [
                | inl list ↦ subst (λ n. HasPlace net.hooks place (get_or (set lists j (s ∷ get_or lists j [])) n [])) (sym list)
                    (rw (get_or-set_same lists j (s ∷ get_or lists j []) [] in_lists) (inr (subst (λ n. HasPlace net.hooks place (get_or lists n [])) list has)))
                | inr other ↦ rw (get_or-set_other lists j k (s ∷ get_or lists j []) [] other) has
              ],
            )
      ]

  -- a longer list still has a length of 32 bits
  pub len_small : get_or net.lens j 0 + 1 ≤ items * net.hooks
  len_small =
      let counts = sum_by-set (λ (x : Option ℕ). cond (is_some x) 1 0) net.owners (place_of net.hooks s) (Some j) None in_owners in
      let none = counted_none (get_or net.owners (place_of net.hooks s) None) free in
      let before = are.total in
      let most = count_by-le-length is_some (set net.owners (place_of net.hooks s) (Some j)) in
      let size = length-set net.owners (place_of net.hooks s) (Some j) in
      let one = get_or-le-sum_by (λ x. x) net.lens j 0 in_lens in
      let all = are.owners in
      omega arith

  pub pushed : AreLists items pushed_net (set lists j (s ∷ get_or lists j []))
  pushed = record {
    small = are.small;
    count = length-set lists j (s ∷ get_or lists j []) ∙ are.count ∙ sym (length-set net.firsts j (Some s));
    lens = length-set net.lens j (get_or net.lens j 0 + 1) ∙ are.lens ∙ sym (length-set net.firsts j (Some s));
    owners = length-set net.owners (place_of net.hooks s) (Some j) ∙ are.owners;
    befores = length-set (linked net.hooks (get_or net.firsts j None) (Some s) net.befores) (place_of net.hooks s) None
        ∙ length-linked net.hooks (get_or net.firsts j None) (Some s) net.befores ∙ are.befores;
    afters = length-set net.afters (place_of net.hooks s) (get_or net.firsts j None) ∙ are.afters;
    chain = λ k within.
        each_set (λ n x ys. n < length net.firsts → IsChain items net.hooks new_owners new_befores new_afters n None x ys) net.firsts lists j (Some s) (s ∷ get_or lists j []) None [] inside in_lists
        (λ h. pushed_chain items net.hooks net.owners net.befores net.afters j s (get_or net.firsts j None) new_owners new_befores new_afters are_new item hook free (get_or lists j []) (are.chain j inside))
        (λ n differ h. other_chain items net.hooks net.owners net.befores net.afters j s (get_or net.firsts j None) new_owners new_befores new_afters are_new item hook free n differ second_owned (get_or net.firsts n None) (get_or lists n []) (are.chain n h))
        k (let e = length-set net.firsts j (Some s) in omega arith);
    len = λ k within.
        each_set (λ n x ys. n < length net.firsts → length ys ≡ x) net.lens lists j (get_or net.lens j 0 + 1) (s ∷ get_or lists j []) 0 [] in_lens in_lists
        (λ h. let e = are.len j inside in omega arith)
        (λ n differ h. are.len n h)
        k (let e = length-set net.firsts j (Some s) in omega arith);
    owned = λ place k is. owned_after place k is;
    total =
        let sums = sum_by-set (λ x. x) net.lens j (get_or net.lens j 0 + 1) 0 in_lens in
        let counts = sum_by-set (λ (x : Option ℕ). cond (is_some x) 1 0) net.owners (place_of net.hooks s) (Some j) None in_owners in
        let none = counted_none (get_or net.owners (place_of net.hooks s) None) free in
        let before = are.total in
        omega arith;
  }

  -- the links as the code makes them
  pub pushed_links : (place n : ℕ) (second : Option Seat) (links : List (Option Seat))
      → place ≡ place_of net.hooks s → n ≡ get_or net.lens j 0 → second ≡ get_or net.firsts j None → links ≡ linked net.hooks second (Some s) net.befores
      → AreLists items (record {
        hooks = net.hooks;
        firsts = set net.firsts j (Some s);
        lens = set net.lens j (n + 1);
        owners = set net.owners place (Some j);
        befores = set links place None;
        afters = set net.afters place second;
      }) (set lists j (s ∷ get_or lists j []))
  pushed_links place n second links place_is n_is second_is links_are = rw (links_are, second_is, n_is, place_is) pushed

  -- the second seat is in range
  pub second_below : (h : Seat) → get_or net.firsts j None ≡ Some h → place_of net.hooks h < items * net.hooks
  second_below h is = in_range (get_or lists j []) (are.chain j inside)
    where
      in_range : (seats : List Seat) → IsChain items net.hooks net.owners net.befores net.afters j None (get_or net.firsts j None) seats → place_of net.hooks h < items * net.hooks
      in_range [] chain = absurd (let both : Some h ≡ None = sym is ∙ chain in cc)
      in_range (g ∷ later) chain =
          let both : Some g ≡ Some h = sym chain.0 ∙ is in
          let e : g ≡ h = cc in
          subst (λ t. place_of net.hooks t < items * net.hooks) e (place_below items net.hooks g chain.1.item chain.1.hook)
