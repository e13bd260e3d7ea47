-- Key lists and what is put to their end.
use Rattle.std.proofs.Common.{◌≡◌, ℕ, zero, suc, ◌+◌, ◌-◌, ◌<◌, ◌≤◌, List, [], ◌∷◌, ◌++◌, length, take, get_or, refl, sym, ap, subst, ◌∙◌, arith, inl, inr, Option, Some, None}
use Rattle.std.specs.Prelude.{slice_get, filter_map, option_map, ◌⊎◌}
use Rattle.std.specs.List.{AllByRecursion, enumerate_from, cons_option}
use Rattle.std.proofs.lemmas.List.{take-append-le}
use Rattle.std.proofs.lemmas.List.{length-append}
use Rattle.std.proofs.lemmas.Bool.{ltb-false}
use Rattle.sx_spec_strings.proofs.Lists.{none_kept, none_holds}
use Rattle.sx_spec.specs.declared.Limits.{Limits}
use Rattle.sx_spec.specs.Keys.{refusal, reasons, fault_at, total_bytes, AreKeys, IsKeyFile}
use Rattle.sx_spec.specs.Laws.{AreBytes}
use Rattle.sx_spec.proofs.KeyFiles.{faultless_lines_are_keys}
use Rattle.sx_bits.specs.Cuts.{cut, AreEnds}
use Rattle.sx_bits.specs.KeyLists.{Keys, IsKeyList}
use Rattle.sx_bits.proofs.Cuts.{cut_push, ends_push}

-- ---- lists of which nothing is kept

kept_none : {X Y : Type 0} (h : ℕ × X → Option Y) (a : ℕ) (xs : List X) → ((i : ℕ) (x : X) → slice_get xs i ≡ Some x → h (a + i, x) ≡ None) → filter_map h (enumerate_from a xs) ≡ []
kept_none h a [] each = refl
kept_none h a (y ∷ xs) each =
    let e : a + 0 ≡ a = omega arith in
    let here : h (a, y) ≡ None = rw e at (each 0 y refl) in
    let rest = kept_none h (a + 1) xs (λ i x at. let f : a + suc i ≡ (a + 1) + i = omega arith in rw f at (each (suc i) x at)) in
    ap (λ o. cons_option o (filter_map h (enumerate_from (a + 1) xs))) here ∙ rest

-- ---- one more line

-- an element of a list with one more is an element of it, or the one more
in_push : {X : Type 0} (xs : List X) (y : X) (i : ℕ) (x : X) → slice_get (xs ++ y ∷ []) i ≡ Some x
    → ((i < length xs) × (slice_get xs i ≡ Some x)) ⊎ ((i ≡ length xs) × (y ≡ x))
in_push [] y zero x at = inr (refl, cc)
in_push [] y (suc i) x at = absurd cc
in_push (z ∷ xs) y zero x at = inl (omega arith, at)
in_push (z ∷ xs) y (suc i) x at =
    elim (in_push xs y i x at) [
      | inl (lt, there) ↦ inl (omega arith, there)
      | inr (last, same) ↦ inr (ap suc last, same)
    ]

take_whole : {X : Type 0} (xs ys : List X) → take (length xs) (xs ++ ys) ≡ xs
take_whole [] ys = refl
take_whole (x ∷ xs) ys = ap (λ zs. x ∷ zs) (take_whole xs ys)

module _ (limits : Limits) (lines : List (List ℕ)) (line : List ℕ) where
  faults_before : (i : ℕ) (x : List ℕ) → i ≤ length lines → fault_at limits (lines ++ line ∷ []) (1 + i, x) ≡ fault_at limits lines (1 + i, x)
  faults_before i x le =
      let e : (1 + i) - 1 ≡ i = omega arith in
      let same : take ((1 + i) - 1) (lines ++ line ∷ []) ≡ take ((1 + i) - 1) lines = take-append-le ((1 + i) - 1) lines (line ∷ []) (omega arith) in
      ap (λ keys. option_map (λ r. record { line = 1 + i; reason = r }) (refusal limits keys x)) same

  pub faultless_push : AreKeys limits lines → refusal limits lines line ≡ None → AreKeys limits (lines ++ line ∷ [])
  faultless_push keys free =
      kept_none (fault_at limits (lines ++ line ∷ [])) 1 (lines ++ line ∷ []) (λ i x at.
      elim (in_push lines line i x at) [
        | inl (lt, there) ↦ faults_before i x (omega arith) ∙ none_kept (fault_at limits lines) 1 lines keys i x there
        | inr (last, same) ↦
            let e : (1 + i) - 1 ≡ length lines = omega arith in
            let whole : take ((1 + i) - 1) (lines ++ line ∷ []) ≡ lines = ap (λ n. take n (lines ++ line ∷ [])) e ∙ take_whole lines (line ∷ []) in
            ap (option_map (λ r. record { line = 1 + i; reason = r })) (ap (λ ks. refusal limits ks x) whole ∙ ap (refusal limits lines) (sym same) ∙ free)
      ])

bytes_push : (lines : List (List ℕ)) (line : List ℕ) → AreBytes lines → AllByRecursion (λ b. b < 256) line → AreBytes (lines ++ line ∷ [])
bytes_push [] line all one = (one, tt)
bytes_push (x ∷ lines) line all one = (all.0, bytes_push lines line all.1 one)

pub all_bytes : (line : List ℕ) → ((i : ℕ) → get_or line i 0 < 256) → AllByRecursion (λ b. b < 256) line
all_bytes [] each = tt
all_bytes (b ∷ line) each = (each 0, all_bytes line (λ i. each (suc i)))

-- a key list with one more line that isn't refused
pub key_list_push : (limits : Limits) (lines : List (List ℕ)) (line : List ℕ) → IsKeyList (record { limits = limits; lines = lines })
    → refusal limits lines line ≡ None → ((i : ℕ) → get_or line i 0 < 256) → IsKeyList (record { limits = limits; lines = lines ++ line ∷ [] })
key_list_push limits lines line valid free small = record {
  limits = valid.limits;
  faultless = faultless_push limits lines line valid.faultless free;
  bytes = bytes_push lines line valid.bytes (all_bytes line small);
}

pub key_file : (keys : Keys) → IsKeyList keys → IsKeyFile keys.limits keys.lines
key_file keys valid = faultless_lines_are_keys keys.limits keys.lines valid.faultless

-- ---- the fields of a list

-- what holds of the fields of a key list
abbrev pub HoldsKeys : Limits → List ℕ → List ℕ → Type 0
HoldsKeys limits bytes ends = IsKeyList (record { limits = limits; lines = cut 0 ends bytes }) × AreEnds 0 ends (length bytes)

-- a line that isn't refused has room
pub room_for : (limits : Limits) (lines : List (List ℕ)) (line : List ℕ) → refusal limits lines line ≡ None → total_bytes lines + length line ≤ limits.max_bytes
room_for limits lines line free =
    let each = none_holds (reasons limits lines line) free in
    ltb-false limits.max_bytes (total_bytes lines + length line) each.1.1.1.1.1.0

-- the fields after one more line
pub pushed_fields : (limits : Limits) (bytes ends line after cuts : List ℕ) → HoldsKeys limits bytes ends
    → refusal limits (cut 0 ends bytes) line ≡ None → ((i : ℕ) → get_or line i 0 < 256)
    → after ≡ bytes ++ line → cuts ≡ ends ++ (length bytes + length line) ∷ []
    → HoldsKeys limits after cuts
pushed_fields limits bytes ends line after cuts (valid, are) free small after_is cuts_is =
    let lines_after = cut_push 0 ends bytes line are in
    let P : List (List ℕ) → Type 0 = λ ls. IsKeyList (record { limits = limits; lines = ls }) in
    let list : IsKeyList (record { limits = limits; lines = cut 0 (ends ++ (length bytes + length line) ∷ []) (bytes ++ line) }) =
    subst P (sym lines_after) (key_list_push limits (cut 0 ends bytes) line valid free small) in
    let all : length (bytes ++ line) ≡ length bytes + length line = length-append bytes line in
    let whole : AreEnds 0 (ends ++ (length bytes + length line) ∷ []) (length (bytes ++ line)) = rw all (ends_push 0 ends (length bytes) (length line) are) in
    rw (after_is, cuts_is) (list, whole)

-- and what they stand for
pub pushed_keys : (keys : Keys) (limits : Limits) (bytes ends line after cuts : List ℕ) → AreEnds 0 ends (length bytes) → ◌≡◌ {A = Keys} (record { limits = limits; lines = cut 0 ends bytes }) keys
    → after ≡ bytes ++ line → cuts ≡ ends ++ (length bytes + length line) ∷ []
    → ◌≡◌ {A = Keys} (record { limits = limits; lines = cut 0 cuts after }) (record { limits = keys.limits; lines = keys.lines ++ line ∷ [] })
pushed_keys keys limits bytes ends line after cuts are seen after_is cuts_is =
    let lines_after : cut 0 cuts after ≡ cut 0 ends bytes ++ line ∷ [] = rw (after_is, cuts_is) (cut_push 0 ends bytes line are) in
    ap {B = Keys} (λ (ls : List (List ℕ)). record { limits = limits; lines = ls }) lines_after
    ∙ ap {B = Keys} (λ (k : Keys). record { limits = k.limits; lines = k.lines ++ line ∷ [] }) seen
