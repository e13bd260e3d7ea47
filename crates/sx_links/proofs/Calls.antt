-- What each call reads from links, in terms of their lists.
use Rattle.std.proofs.Common.{◌≡◌, ℕ, zero, suc, ◌*◌, ◌^◌, ◌<◌, cond, List, [], ◌∷◌, length, get_or, refl, sym, ap, subst, ◌∙◌, arith, inl, inr, Some, None, Option, zero-add}
use Rattle.std.specs.Prelude.{replicate, slice_get, sum, count_by, is_some}
use Rattle.std.proofs.lemmas.List.{length-replicate, get_or-replicate, get_or_past}
use Rattle.std.proofs.lemmas.List.Sums.{sum_by-cons}
use Rattle.std.proofs.lemmas.Bool.{cases_lt}
use Rattle.sx_links.specs.declared.Seat.{Seat}
use Rattle.sx_links.specs.Seats.{Lists, LiesOn, IsTaken, IsListOf, after}
use Rattle.sx_links.specs.Chains.{place_of, Net, walk, walks, IsNet, IsChain}
use Rattle.sx_links.proofs.Chains.{after_between, chain_first}
use Rattle.sx_links.proofs.Nets.{lists_are, owner_of, stands_on, stands, apart}

-- the lists of links, as callers see them
abbrev pub seen : ℕ → Net → Lists
seen items net = record { items = items; hooks = net.hooks; lists = walks net.hooks net.afters net.firsts net.lens }

module _ (items : ℕ) (net : Net) (is : IsNet items net) where
  pub list_below : (j : ℕ) → j < length (walks net.hooks net.afters net.firsts net.lens) → j < length net.firsts
  list_below j within = let e = (lists_are items net is).count in omega arith

  pub first_is : (j : ℕ) → j < length (walks net.hooks net.afters net.firsts net.lens) → get_or net.firsts j None ≡ slice_get (get_or (walks net.hooks net.afters net.firsts net.lens) j []) 0
  first_is j within = chain_first items net.hooks net.owners net.befores net.afters j None (get_or net.firsts j None) (get_or (walks net.hooks net.afters net.firsts net.lens) j [])
      ((lists_are items net is).chain j (list_below j within))

  pub len_is : (j : ℕ) → j < length (walks net.hooks net.afters net.firsts net.lens) → get_or net.lens j 0 ≡ length (get_or (walks net.hooks net.afters net.firsts net.lens) j [])
  len_is j within = sym ((lists_are items net is).len j (list_below j within))

  pub next_is : (s : Seat) → s.hook < net.hooks → (j : ℕ) → LiesOn (seen items net) j s
      → get_or net.afters (place_of net.hooks s) None ≡ after s (get_or (walks net.hooks net.afters net.firsts net.lens) j [])
  next_is s hook j lies =
      let lists = walks net.hooks net.afters net.firsts net.lens in
      let are = lists_are items net is in
      let at = stands items net lists are j s hook (owner_of items net lists are j s lies.0 lies.1) in
      let between = apart items net lists are j s at in
      between.next ∙ sym (ap (after s) at.seats ∙ after_between net.hooks s at.xs at.ys between.earlier)

  pub list_of_is : (s : Seat) → s.hook < net.hooks → IsListOf (seen items net) s (get_or net.owners (place_of net.hooks s) None)
  list_of_is s hook = by_owner (get_or net.owners (place_of net.hooks s) None) refl
    where
      by_owner : (owner : Option ℕ) → get_or net.owners (place_of net.hooks s) None ≡ owner → IsListOf (seen items net) s owner
      by_owner None e = λ taken.
          let own = owner_of items net (walks net.hooks net.afters net.firsts net.lens) (lists_are items net is) taken.0 s taken.1.0 taken.1.1 in
          let both : Some taken.0 ≡ None = sym own ∙ e in absurd cc
      by_owner (Some j) e = (
        stands_on items net (walks net.hooks net.afters net.firsts net.lens) (lists_are items net is) j s hook e,
        λ k lies. let own = owner_of items net (walks net.hooks net.afters net.firsts net.lens) (lists_are items net is) k s lies.0 lies.1 in
            let both : Some k ≡ Some j = sym own ∙ e in
            let same : k ≡ j = cc in same,
      )

  pub free_owner : (s : Seat) → s.hook < net.hooks → ¬ IsTaken (seen items net) s → get_or net.owners (place_of net.hooks s) None ≡ None
  free_owner s hook free = by_owner (get_or net.owners (place_of net.hooks s) None) refl
    where
      by_owner : (owner : Option ℕ) → get_or net.owners (place_of net.hooks s) None ≡ owner → owner ≡ None
      by_owner None e = refl
      by_owner (Some j) e = absurd (free (j, stands_on items net (walks net.hooks net.afters net.firsts net.lens) (lists_are items net is) j s hook e))

  -- a seat that is taken has an owner
  pub taken_owner : (s : Seat) → IsTaken (seen items net) s → get_or net.owners (place_of net.hooks s) None ≡ None → ⊥
  taken_owner s taken e =
      let own = owner_of items net (walks net.hooks net.afters net.firsts net.lens) (lists_are items net is) taken.0 s taken.1.0 taken.1.1 in
      let both : Some taken.0 ≡ None = sym own ∙ e in absurd cc

-- ---- empty lists

walks_of_none : (hooks : ℕ) (a : List (Option Seat)) (n : ℕ) → walks hooks a (replicate n None) (replicate n 0) ≡ replicate n []
walks_of_none hooks a zero = refl
walks_of_none hooks a (suc n) = ap (λ ls. [] ∷ ls) (walks_of_none hooks a n)

same_at : {X : Type 0} (n j : ℕ) (x : X) → get_or (replicate n x) j x ≡ x
same_at n j x = elim (cases_lt j n) [
  | inl within ↦ get_or-replicate n j x x within
  | inr past ↦ get_or_past (replicate n x) j x (let e = length-replicate n x in omega arith)
]

sum_of_none : (n : ℕ) → sum (replicate n 0) ≡ 0
sum_of_none zero = refl
sum_of_none (suc n) = sum_by-cons (λ x. x) 0 (replicate n 0) ∙ zero-add (sum (replicate n 0)) ∙ sum_of_none n

count_of_none : (n : ℕ) → count_by {X = Option ℕ} is_some (replicate n None) ≡ 0
count_of_none zero = refl
count_of_none (suc n) =
    sum_by-cons (λ (x : Option ℕ). cond (is_some x) 1 0) None (replicate n None) ∙ zero-add (count_by {X = Option ℕ} is_some (replicate n None)) ∙ count_of_none n

pub empty_net : (items lists hooks : ℕ) → items * hooks < 2 ^ 32 → IsNet items (record {
  hooks = hooks;
  firsts = replicate lists None;
  lens = replicate lists 0;
  owners = replicate (items * hooks) None;
  befores = replicate (items * hooks) None;
  afters = replicate (items * hooks) None;
})
empty_net items lists hooks small = record {
  small = small;
  lens = length-replicate {A = ℕ} lists 0 ∙ sym (length-replicate {A = Option Seat} lists None);
  owners = length-replicate {A = Option ℕ} (items * hooks) None;
  befores = length-replicate {A = Option Seat} (items * hooks) None;
  afters = length-replicate {A = Option Seat} (items * hooks) None;
  chain = λ j within. subst (IsChain items hooks (replicate (items * hooks) None) (replicate (items * hooks) None) (replicate (items * hooks) None) j None (get_or (replicate lists None) j None)) (sym (empty j)) (same_at {X = Option Seat} lists j None);
  len = λ j within. ap length (empty j) ∙ sym (same_at {X = ℕ} lists j 0);
  owned = λ place j is. absurd (let none = same_at {X = Option ℕ} (items * hooks) place None in let both : Some j ≡ None = sym is ∙ none in cc);
  total = sum_of_none lists ∙ sym (count_of_none (items * hooks));
}
  where
    empty : (j : ℕ) → walk hooks (replicate (items * hooks) None) (get_or (replicate lists 0) j 0) (get_or (replicate lists None) j None) ≡ []
    empty j = ap (λ n. walk hooks (replicate (items * hooks) None) n (get_or (replicate lists None) j None)) (same_at {X = ℕ} lists j 0)

pub empty_lists : (hooks : ℕ) (a : List (Option Seat)) (n : ℕ) → walks hooks a (replicate n None) (replicate n 0) ≡ replicate n []
empty_lists hooks a n = walks_of_none hooks a n
