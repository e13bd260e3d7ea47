-- The bytes of words, piece by piece.
use Rattle.std.proofs.Common.{◌≡◌, ℕ, ◌+◌, ◌-◌, ◌*◌, ◌<◌, ◌≤◌, List, [], ◌∷◌, ◌++◌, Option, length, take, drop, get_or, sym, ap, subst, ◌∙◌, arith, take-append-drop, append_assoc, inl, inr}
use Rattle.std.proofs.lemmas.Bool.{cases_lt}
use Rattle.std.specs.Prelude.{min}
use Rattle.std.specs.Int.{w64, to_le_bytes}
use Rattle.std.proofs.lemmas.List.{append-nil, drop-take, take-take, take_all, take_more}
use Rattle.std.proofs.lemmas.List.Concat.{flat_map-append}
use borrow.Rule.Slice.PartMut.{put_mid}
use Rattle.std.proofs.lemmas.Slice.{take-put_mid}
use Rattle.sx_spec.specs.Command.{Text}
use Rattle.sx_spec.specs.Layout.{words_bytes}
use Rattle.sx_spec.specs.World.{Files}
use Rattle.sx_edge.specs.Shelf.{AppendsFile, AppendsFilePrefix}
use Rattle.sx_edge.proofs.Files.{AppendsFile-trans}

-- one word more
pub bytes_more : (words : List ℕ) (i : ℕ) → i < length words → words_bytes (take (i + 1) words) ≡ words_bytes (take i words) ++ to_le_bytes w64 (get_or words i 0)
bytes_more words i lt =
    ap words_bytes (take_more words i 0 lt) ∙ flat_map-append (to_le_bytes w64) (take i words) (get_or words i 0 ∷ [])
    ∙ ap (λ l. words_bytes (take i words) ++ l) (append-nil (to_le_bytes w64 (get_or words i 0)))

-- the front of a buffer after one word more was put behind those there
pub filled_more : (buffer new words bytes : List ℕ) (i : ℕ) → i < length words → 8 * length words ≤ length buffer → take (8 * i) buffer ≡ words_bytes (take i words) → bytes ≡ to_le_bytes w64 (get_or words i 0)
    → new ≡ put_mid (8 * i) (8 * i + 8 - 8 * i) buffer bytes → take (8 * (i + 1)) new ≡ words_bytes (take (i + 1) words)
filled_more buffer new words bytes i lt room so_far is written =
    let long : length bytes ≡ 8 = ap (λ l. length l) is in
    let e : 8 * (i + 1) ≡ 8 * i + length bytes = omega arith in
    ap (take (8 * (i + 1))) written
    ∙ take-put_mid (8 * i) (8 * i + 8 - 8 * i) buffer bytes (8 * (i + 1)) e (omega arith)
    ∙ ap (λ l. l ++ bytes) so_far ∙ ap (λ l. words_bytes (take i words) ++ l) is
    ∙ sym (bytes_more words i lt)

-- one piece more
take-more : (words : List ℕ) (n m : ℕ) → take (n + m) words ≡ take n words ++ take m (drop n words)
take-more words n m =
    let whole = take-append-drop n (take (n + m) words) in
    sym (rw (take-take n (n + m) words (omega arith), drop-take n m words) at whole)

pub piece_more : (words bytes : List ℕ) (i end : ℕ) → 1024 * i < length words → end ≡ min (length words) (1024 * i + 1024) → bytes ≡ words_bytes (take (end - 1024 * i) (drop (1024 * i) words))
    → words_bytes (take (1024 * i) words) ++ bytes ≡ words_bytes (take end words)
piece_more words bytes i end lt end_is is =
    let n = 1024 * i in
    let e : n + (end - n) ≡ end = omega arith in
    ap (λ l. words_bytes (take n words) ++ l) is
    ∙ sym (flat_map-append (to_le_bytes w64) (take n words) (take (end - n) (drop n words)))
    ∙ ap words_bytes (sym (take-more words n (end - n)) ∙ ap (λ k. take k words) e)

same_front : (words : List ℕ) (i end : ℕ) → end ≡ min (length words) (1024 * i + 1024) → take end words ≡ take (1024 * (i + 1)) words
same_front words i end end_is =
    elim (cases_lt (length words) (1024 * (i + 1))) [
      | inl short ↦
          take_all end words (let a : length words ≤ end = omega arith in a) ∙ sym (take_all (1024 * (i + 1)) words (omega arith))
      | inr long ↦ let e : end ≡ 1024 * (i + 1) = omega arith in ap (λ k. take k words) e
    ]

regroup : (a b c d : List ℕ) → (a ++ (b ++ c)) ++ d ≡ (a ++ b) ++ (c ++ d)
regroup a b c d = simp append_assoc

-- one piece more is written
pub written_more : (to : Option Text) (a b c : Option Files) (words bytes : List ℕ) (i end : ℕ) → 1024 * i < length words → end ≡ min (length words) (1024 * i + 1024) → bytes ≡ words_bytes (take (end - 1024 * i) (drop (1024 * i) words))
    → AppendsFile to a b (words_bytes (take (1024 * i) words)) → AppendsFile to b c bytes → AppendsFile to a c (words_bytes (take (1024 * (i + 1)) words))
written_more to a b c words bytes i end lt end_is is before after =
    subst (AppendsFile to a c) (piece_more words bytes i end lt end_is is ∙ ap words_bytes (same_front words i end end_is))
    (AppendsFile-trans to a b c (words_bytes (take (1024 * i) words)) bytes before after)

-- a part of a piece is written
pub prefix_more : (to : Option Text) (a b c : Option Files) (words bytes : List ℕ) (i end : ℕ) → 1024 * i < length words → end ≡ min (length words) (1024 * i + 1024) → bytes ≡ words_bytes (take (end - 1024 * i) (drop (1024 * i) words))
    → AppendsFile to a b (words_bytes (take (1024 * i) words)) → AppendsFilePrefix to b c bytes → AppendsFilePrefix to a c (words_bytes words)
prefix_more to a b c words bytes i end lt end_is is before (part, (more, split), after) =
    let front = words_bytes (take (1024 * i) words) in
    let rest = words_bytes (drop end words) in
    let whole : words_bytes words ≡ (front ++ bytes) ++ rest =
    ap words_bytes (sym (take-append-drop end words)) ∙ flat_map-append (to_le_bytes w64) (take end words) (drop end words)
    ∙ ap (λ l. l ++ rest) (sym (piece_more words bytes i end lt end_is is)) in
    (front ++ part, (more ++ rest, whole ∙ ap (λ l. (front ++ l) ++ rest) split ∙ regroup front part more rest), AppendsFile-trans to a b c front part before after)
