-- A seat is taken out of its list.
use Rattle.std.proofs.Common.{◌≡◌, ◌≢◌, ℕ, ◌*◌, ◌<◌, List, [], ◌∷◌, ◌++◌, length, get_or, set, refl, sym, ap, subst, ◌∙◌, arith, Some, None, Option}
use Rattle.std.specs.List.{AllByRecursion}
use Rattle.std.proofs.lemmas.List.{get_or-set_same, get_or-set_other}
use Rattle.sx_links.specs.declared.Seat.{Seat}
use Rattle.sx_links.specs.Chains.{place_of, linked, IsChain}
use Rattle.sx_links.proofs.Chains.{all_more, all_middle, all_without, place_below, chain_owned, earlier_in, next_in, IsSameAt, same_chain}
use Rattle.sx_links.proofs.Pushed.{linked_other, linked_at}

-- the links after a seat was taken out from between the one before it and the one after it
pub record AreUnlinked (items hooks : ℕ) (o : List (Option ℕ)) (b a : List (Option Seat)) (s : Seat) (o2 : List (Option ℕ)) (b2 a2 : List (Option Seat)) : Type 0 where
  pub owner : get_or o2 (place_of hooks s) None ≡ None
  pub owner_off : (k : ℕ) → k ≢ place_of hooks s → get_or o2 k None ≡ get_or o k None
  pub before_off : (k : ℕ) → ((m : Seat) → get_or a (place_of hooks s) None ≡ Some m → k ≢ place_of hooks m) → get_or b2 k None ≡ get_or b k None
  pub after_off : (k : ℕ) → ((q : Seat) → get_or b (place_of hooks s) None ≡ Some q → k ≢ place_of hooks q) → get_or a2 k None ≡ get_or a k None
  pub back : (m : Seat) → get_or a (place_of hooks s) None ≡ Some m → place_of hooks m < items * hooks → get_or b2 (place_of hooks m) None ≡ get_or b (place_of hooks s) None
  pub forth : (q : Seat) → get_or b (place_of hooks s) None ≡ Some q → place_of hooks q < items * hooks → get_or a2 (place_of hooks q) None ≡ get_or a (place_of hooks s) None

pub are_unlinked : (items hooks : ℕ) (o : List (Option ℕ)) (b a : List (Option Seat)) (s : Seat)
    → length o ≡ items * hooks → length b ≡ items * hooks → length a ≡ items * hooks → place_of hooks s < items * hooks
    → AreUnlinked items hooks o b a s (set o (place_of hooks s) None)
    (linked hooks (get_or a (place_of hooks s) None) (get_or b (place_of hooks s) None) b)
    (linked hooks (get_or b (place_of hooks s) None) (get_or a (place_of hooks s) None) a)
are_unlinked items hooks o b a s owners befores afters below = record {
  owner = get_or-set_same o (place_of hooks s) None None (omega arith);
  owner_off = λ k differ. get_or-set_other o (place_of hooks s) k None None differ;
  before_off = λ k off. linked_other hooks (get_or a (place_of hooks s) None) (get_or b (place_of hooks s) None) b k off;
  after_off = λ k off. linked_other hooks (get_or b (place_of hooks s) None) (get_or a (place_of hooks s) None) a k off;
  back = λ m is within. linked_at hooks (get_or a (place_of hooks s) None) (get_or b (place_of hooks s) None) b m is (omega arith);
  forth = λ q is within. linked_at hooks (get_or b (place_of hooks s) None) (get_or a (place_of hooks s) None) a q is (omega arith);
}

module _ (items hooks : ℕ) (o : List (Option ℕ)) (b a : List (Option Seat)) (list : ℕ) (s : Seat) (o2 : List (Option ℕ)) (b2 a2 : List (Option Seat))
    (links : AreUnlinked items hooks o b a s o2 b2 a2) where
  same_off : (k : ℕ) → k ≢ place_of hooks s → ((m : Seat) → get_or a (place_of hooks s) None ≡ Some m → k ≢ place_of hooks m)
      → ((q : Seat) → get_or b (place_of hooks s) None ≡ Some q → k ≢ place_of hooks q) → IsSameAt o o2 b a b2 a2 k
  same_off k differ next before = (links.owner_off k differ, links.before_off k next, links.after_off k before)

  -- what stood behind the seat, linked to the one before it
  behind : (ys : List Seat) (previous pointer : Option Seat) → IsChain items hooks o b a list previous pointer (s ∷ ys)
      → ((q : Seat) → previous ≡ Some q → AllByRecursion (λ t. place_of hooks t ≢ place_of hooks q) ys)
      → IsChain items hooks o2 b2 a2 list previous (get_or a (place_of hooks s) None) ys
  behind [] previous pointer chain apart = chain.2
  behind (m ∷ us) previous pointer chain apart =
      let mine = chain.1 in
      let rest = chain.2 in
      let off_before : (q : Seat) → get_or b (place_of hooks s) None ≡ Some q → AllByRecursion (λ t. place_of hooks t ≢ place_of hooks q) (m ∷ us) = λ q is. apart q (sym mine.before ∙ is) in
      let next_is : (g : Seat) → get_or a (place_of hooks s) None ≡ Some g → place_of hooks g ≡ place_of hooks m =
      λ g is. (let both : Some m ≡ Some g = sym rest.0 ∙ is in let e : g ≡ m = cc in ap (place_of hooks) e) in
      let each : AllByRecursion (λ t. IsSameAt o o2 b a b2 a2 (place_of hooks t)) us = each_same us mine.differ.1 rest.1.differ next_is (λ q is. (off_before q is).1) in (
        rest.0,
        record {
          item = rest.1.item;
          hook = rest.1.hook;
          owner = links.owner_off (place_of hooks m) mine.differ.0 ∙ rest.1.owner;
          before = links.back m rest.0 (place_below items hooks m rest.1.item rest.1.hook) ∙ mine.before;
          differ = rest.1.differ;
        },
        subst (λ p. IsChain items hooks o2 b2 a2 list (Some m) p us) (sym (links.after_off (place_of hooks m) (λ q is. (off_before q is).0)))
            (same_chain items hooks o o2 b a b2 a2 list (Some m) (get_or a (place_of hooks m) None) us each rest.2),
      )
    where
      each_same : (us : List Seat) → AllByRecursion (λ t. place_of hooks t ≢ place_of hooks s) us → AllByRecursion (λ t. place_of hooks t ≢ place_of hooks m) us
          → ((g : Seat) → get_or a (place_of hooks s) None ≡ Some g → place_of hooks g ≡ place_of hooks m)
          → ((q : Seat) → get_or b (place_of hooks s) None ≡ Some q → AllByRecursion (λ t. place_of hooks t ≢ place_of hooks q) us)
          → AllByRecursion (λ t. IsSameAt o o2 b a b2 a2 (place_of hooks t)) us
      each_same [] from_s from_m next_is off = tt
      each_same (u ∷ us) from_s from_m next_is off = (
        same_off (place_of hooks u) from_s.0 (λ g is same. from_m.0 (same ∙ next_is g is)) (λ q is. (off q is).0),
        each_same us from_s.1 from_m.1 next_is (λ q is. (off q is).1),
      )

  -- the seat stood behind another
  inner : (previous pointer : Option Seat) (t : Seat) (xs ys : List Seat) → IsChain items hooks o b a list previous pointer (t ∷ xs ++ s ∷ ys)
      → IsChain items hooks o2 b2 a2 list previous pointer (t ∷ xs ++ ys)
  inner previous pointer t [] ys chain =
      let mine = chain.1 in
      let rest = chain.2 in
      let last : get_or b (place_of hooks s) None ≡ Some t = rest.1.before in
      let below = place_below items hooks t mine.item mine.hook in (
        chain.0,
        record {
          item = mine.item;
          hook = mine.hook;
          owner = links.owner_off (place_of hooks t) (λ same. mine.differ.0 (sym same)) ∙ mine.owner;
          before = links.before_off (place_of hooks t)
              (λ m is same. next_in items hooks o b a list (λ u. place_of hooks u ≢ place_of hooks t) (Some t) (get_or a (place_of hooks t) None) [] s ys m rest is mine.differ.1 (sym same)) ∙ mine.before;
          differ = mine.differ.1;
        },
        subst (λ p. IsChain items hooks o2 b2 a2 list (Some t) p ys) (sym (links.forth t last below))
            (behind ys (Some t) (get_or a (place_of hooks t) None) rest
            (λ q is. let e : t ≡ q = cc in subst (λ r. AllByRecursion (λ u. place_of hooks u ≢ place_of hooks r) ys) e mine.differ.1)),
      )
  inner previous pointer t (x ∷ xs) ys chain =
      let mine = chain.1 in
      let rest = chain.2 in (
        chain.0,
        record {
          item = mine.item;
          hook = mine.hook;
          owner = links.owner_off (place_of hooks t) (λ same. all_middle (λ u. place_of hooks u ≢ place_of hooks t) (x ∷ xs) s ys mine.differ (sym same)) ∙ mine.owner;
          before = links.before_off (place_of hooks t)
              (λ m is same. next_in items hooks o b a list (λ u. place_of hooks u ≢ place_of hooks t) (Some t) (get_or a (place_of hooks t) None) (x ∷ xs) s ys m rest is
              (all_behind (λ u. place_of hooks u ≢ place_of hooks t) (x ∷ xs) s ys mine.differ) (sym same)) ∙ mine.before;
          differ = all_without (λ u. place_of hooks u ≢ place_of hooks t) (x ∷ xs) s ys mine.differ;
        },
        subst (λ p. IsChain items hooks o2 b2 a2 list (Some t) p (x ∷ xs ++ ys))
            (sym (links.after_off (place_of hooks t)
            (λ q is same. earlier_in items hooks o b a list (λ u. place_of hooks u ≢ place_of hooks t) (Some t) (get_or a (place_of hooks t) None) x xs s ys q rest is mine.differ (sym same))))
            (inner (Some t) (get_or a (place_of hooks t) None) x xs ys rest),
      )
    where
      all_behind : {X : Type 0} (P : X → Type 0) (xs : List X) (x : X) (ys : List X) → AllByRecursion P (xs ++ x ∷ ys) → AllByRecursion P ys
      all_behind P [] x ys all = all.1
      all_behind P (z ∷ zs) x ys all = all_behind P zs x ys all.1

  -- the first seat of the list afterwards
  pub unlinked_chain : (first : Option Seat) (xs ys : List Seat) → IsChain items hooks o b a list None first (xs ++ s ∷ ys)
      → (new_first : Option Seat) → (get_or b (place_of hooks s) None ≡ None → new_first ≡ get_or a (place_of hooks s) None)
      → ((q : Seat) → get_or b (place_of hooks s) None ≡ Some q → new_first ≡ first)
      → IsChain items hooks o2 b2 a2 list None new_first (xs ++ ys)
  unlinked_chain first [] ys chain new_first where_first where_not =
      subst (λ p. IsChain items hooks o2 b2 a2 list None p ys) (sym (where_first chain.1.before))
      (behind ys None first chain (λ q is. absurd cc))
  unlinked_chain first (t ∷ xs) ys chain new_first where_first where_not =
      let (q, is) = some_before t xs (Some t) (get_or a (place_of hooks t) None) chain.2 refl in
      subst (λ p. IsChain items hooks o2 b2 a2 list None p (t ∷ xs ++ ys)) (sym (where_not q is)) (inner None first t xs ys chain)
    where
      some_before : (t : Seat) (xs : List Seat) (previous pointer : Option Seat) → IsChain items hooks o b a list previous pointer (xs ++ s ∷ ys) → previous ≡ Some t
          → (q : Seat) × (get_or b (place_of hooks s) None ≡ Some q)
      some_before t [] previous pointer chain is = (t, chain.1.before ∙ is)
      some_before t (x ∷ xs) previous pointer chain is = some_before x xs (Some x) (get_or a (place_of hooks x) None) chain.2 refl

  -- a chain of another list stays
  pub other_stays : (k : ℕ) → k ≢ list → get_or o (place_of hooks s) None ≡ Some list
      → ((m : Seat) → get_or a (place_of hooks s) None ≡ Some m → get_or o (place_of hooks m) None ≡ Some list)
      → ((q : Seat) → get_or b (place_of hooks s) None ≡ Some q → get_or o (place_of hooks q) None ≡ Some list)
      → (pointer : Option Seat) (seats : List Seat) → IsChain items hooks o b a k None pointer seats → IsChain items hooks o2 b2 a2 k None pointer seats
  other_stays k differ mine next before pointer seats chain =
      same_chain items hooks o o2 b a b2 a2 k None pointer seats
      (all_more (λ t. get_or o (place_of hooks t) None ≡ Some k) (λ t. IsSameAt o o2 b a b2 a2 (place_of hooks t)) seats
      (λ t is. same_off (place_of hooks t) (apart t s is mine) (λ m at. apart t m is (next m at)) (λ q at. apart t q is (before q at)))
      (chain_owned items hooks o b a k None pointer seats chain))
      chain
    where
      apart : (t u : Seat) → get_or o (place_of hooks t) None ≡ Some k → get_or o (place_of hooks u) None ≡ Some list → place_of hooks t ≢ place_of hooks u
      apart t u owned_t owned_u same =
          let both : Some k ≡ Some list = sym owned_t ∙ ap (λ p. get_or o p None) same ∙ owned_u in
          let e : k ≡ list = cc in
          absurd (differ e)
