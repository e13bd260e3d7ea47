-- A seat is put first on a list.
use Rattle.std.proofs.Common.{◌≡◌, ◌≢◌, ℕ, ◌*◌, ◌<◌, List, [], ◌∷◌, length, get_or, set, refl, sym, ap, subst, ◌∙◌, arith, Some, None, Option}
use Rattle.std.specs.List.{AllByRecursion}
use Rattle.std.proofs.lemmas.List.{get_or-set_same, get_or-set_other, length-set}
use Rattle.sx_links.specs.declared.Seat.{Seat}
use Rattle.sx_links.specs.Chains.{place_of, linked, IsChain}
use Rattle.sx_links.proofs.Chains.{all_more, all_both, place_below, chain_owned, IsSameAt, same_chain}

pub linked_other : (hooks : ℕ) (seat to : Option Seat) (links : List (Option Seat)) (k : ℕ) → ((h : Seat) → seat ≡ Some h → k ≢ place_of hooks h)
    → get_or (linked hooks seat to links) k None ≡ get_or links k None
linked_other hooks None to links k off = refl
linked_other hooks (Some h) to links k off = get_or-set_other links (place_of hooks h) k to None (off h refl)

pub length-linked : (hooks : ℕ) (seat to : Option Seat) (links : List (Option Seat)) → length (linked hooks seat to links) ≡ length links
length-linked hooks None to links = refl
length-linked hooks (Some h) to links = length-set links (place_of hooks h) to

pub linked_at : (hooks : ℕ) (seat to : Option Seat) (links : List (Option Seat)) (h : Seat) → seat ≡ Some h → place_of hooks h < length links
    → get_or (linked hooks seat to links) (place_of hooks h) None ≡ to
linked_at hooks None to links h is within = absurd cc
linked_at hooks (Some g) to links h is within =
    let same : g ≡ h = cc in
    let at : place_of hooks g ≡ place_of hooks h = ap (place_of hooks) same in
    ap (λ k. get_or (set links k to) (place_of hooks h) None) at ∙ get_or-set_same links (place_of hooks h) to None within

-- the links after a seat of this place was put before the second one
pub record ArePushed (items hooks : ℕ) (o : List (Option ℕ)) (b a : List (Option Seat)) (list : ℕ) (s : Seat) (second : Option Seat) (o2 : List (Option ℕ)) (b2 a2 : List (Option Seat)) : Type 0 where
  pub owner : get_or o2 (place_of hooks s) None ≡ Some list
  pub before : get_or b2 (place_of hooks s) None ≡ None
  pub after : get_or a2 (place_of hooks s) None ≡ second
  pub owner_off : (k : ℕ) → k ≢ place_of hooks s → get_or o2 k None ≡ get_or o k None
  pub after_off : (k : ℕ) → k ≢ place_of hooks s → get_or a2 k None ≡ get_or a k None
  pub before_off : (k : ℕ) → k ≢ place_of hooks s → ((h : Seat) → second ≡ Some h → k ≢ place_of hooks h) → get_or b2 k None ≡ get_or b k None
  pub back : (h : Seat) → second ≡ Some h → place_of hooks h < items * hooks → place_of hooks h ≢ place_of hooks s → get_or b2 (place_of hooks h) None ≡ Some s

pub are_pushed : (items hooks : ℕ) (o : List (Option ℕ)) (b a : List (Option Seat)) (list : ℕ) (s : Seat) (second : Option Seat)
    → length o ≡ items * hooks → length b ≡ items * hooks → length a ≡ items * hooks → place_of hooks s < items * hooks
    → ArePushed items hooks o b a list s second (set o (place_of hooks s) (Some list)) (set (linked hooks second (Some s) b) (place_of hooks s) None) (set a (place_of hooks s) second)
are_pushed items hooks o b a list s second owners befores afters below = record {
  owner = get_or-set_same o (place_of hooks s) (Some list) None (omega arith);
  before = get_or-set_same (linked hooks second (Some s) b) (place_of hooks s) None None (let n = length-linked hooks second (Some s) b in omega arith);
  after = get_or-set_same a (place_of hooks s) second None (omega arith);
  owner_off = λ k differ. get_or-set_other o (place_of hooks s) k (Some list) None differ;
  after_off = λ k differ. get_or-set_other a (place_of hooks s) k second None differ;
  before_off = λ k differ off. get_or-set_other (linked hooks second (Some s) b) (place_of hooks s) k None None differ ∙ linked_other hooks second (Some s) b k off;
  back = λ h is within differ.
      get_or-set_other (linked hooks second (Some s) b) (place_of hooks s) (place_of hooks h) None None differ
      ∙ linked_at hooks second (Some s) b h is (omega arith);
}

module _ (items hooks : ℕ) (o : List (Option ℕ)) (b a : List (Option Seat)) (list : ℕ) (s : Seat) (second : Option Seat) (o2 : List (Option ℕ)) (b2 a2 : List (Option Seat))
    (links : ArePushed items hooks o b a list s second o2 b2 a2)
    (item : s.item < items) (hook : s.hook < hooks) (free : get_or o (place_of hooks s) None ≡ None) where
  same_off : (k : ℕ) → k ≢ place_of hooks s → ((h : Seat) → second ≡ Some h → k ≢ place_of hooks h) → IsSameAt o o2 b a b2 a2 k
  same_off k differ off = (links.owner_off k differ, links.before_off k differ off, links.after_off k differ)

  -- a seat of some list is not the free one
  taken_differs : (k : ℕ) (t : Seat) → get_or o (place_of hooks t) None ≡ Some k → place_of hooks t ≢ place_of hooks s
  taken_differs k t owned same =
      let none : get_or o (place_of hooks t) None ≡ None = ap (λ p. get_or o p None) same ∙ free in
      let both : Some k ≡ None = sym owned ∙ none in
      absurd cc

  behind : (seats : List Seat) → IsChain items hooks o b a list None second seats → IsChain items hooks o2 b2 a2 list (Some s) second seats
  behind [] chain = chain
  behind (h ∷ later) chain =
      let differ = taken_differs list h chain.1.owner in
      let same_second : (g : Seat) → second ≡ Some g → place_of hooks g ≡ place_of hooks h = λ g is. (let both : Some h ≡ Some g = sym chain.0 ∙ is in let e : g ≡ h = cc in ap (place_of hooks) e) in
      let owned = chain_owned items hooks o b a list (Some h) (get_or a (place_of hooks h) None) later chain.2 in
      let each : AllByRecursion (λ t. IsSameAt o o2 b a b2 a2 (place_of hooks t)) later =
      all_more (λ t. (get_or o (place_of hooks t) None ≡ Some list) × (place_of hooks t ≢ place_of hooks h)) (λ t. IsSameAt o o2 b a b2 a2 (place_of hooks t)) later
      (λ t is. same_off (place_of hooks t) (taken_differs list t is.0) (λ g at same. is.1 (same ∙ same_second g at)))
      (all_both (λ t. get_or o (place_of hooks t) None ≡ Some list) (λ t. place_of hooks t ≢ place_of hooks h) later owned chain.1.differ) in (
        chain.0,
        record {
          item = chain.1.item;
          hook = chain.1.hook;
          owner = links.owner_off (place_of hooks h) differ ∙ chain.1.owner;
          before = links.back h chain.0 (place_below items hooks h chain.1.item chain.1.hook) differ;
          differ = chain.1.differ;
        },
        subst (λ p. IsChain items hooks o2 b2 a2 list (Some h) p later) (sym (links.after_off (place_of hooks h) differ))
            (same_chain items hooks o o2 b a b2 a2 list (Some h) (get_or a (place_of hooks h) None) later each chain.2),
      )

  pub pushed_chain : (seats : List Seat) → IsChain items hooks o b a list None second seats → IsChain items hooks o2 b2 a2 list None (Some s) (s ∷ seats)
  pushed_chain seats chain = (
    refl,
    record {
      item = item;
      hook = hook;
      owner = links.owner;
      before = links.before;
      differ = all_more (λ t. get_or o (place_of hooks t) None ≡ Some list) (λ t. place_of hooks t ≢ place_of hooks s) seats (λ t is. taken_differs list t is)
          (chain_owned items hooks o b a list None second seats chain);
    },
    subst (λ p. IsChain items hooks o2 b2 a2 list (Some s) p seats) (sym links.after) (behind seats chain),
  )

  -- a chain of another list stays
  pub other_chain : (k : ℕ) → k ≢ list → ((h : Seat) → second ≡ Some h → get_or o (place_of hooks h) None ≡ Some list) → (pointer : Option Seat) (seats : List Seat)
      → IsChain items hooks o b a k None pointer seats → IsChain items hooks o2 b2 a2 k None pointer seats
  other_chain k differ owned pointer seats chain =
      same_chain items hooks o o2 b a b2 a2 k None pointer seats
      (all_more (λ t. get_or o (place_of hooks t) None ≡ Some k) (λ t. IsSameAt o o2 b a b2 a2 (place_of hooks t)) seats
      (λ t is. same_off (place_of hooks t) (taken_differs k t is)
      (λ h at same. let here : get_or o (place_of hooks t) None ≡ Some list = ap (λ p. get_or o p None) same ∙ owned h at in
      let both : Some k ≡ Some list = sym is ∙ here in
      let e : k ≡ list = cc in absurd (differ e)))
      (chain_owned items hooks o b a k None pointer seats chain))
      chain
