-- Parts of a buffer, one behind the other.
use Rattle.std.proofs.Common.{◌≡◌, ℕ, suc, ◌+◌, ◌-◌, ◌<◌, ◌≤◌, List, [], ◌∷◌, ◌++◌, take, drop, length, get_or, arith, refl, sym, ap, ◌∙◌, length-drop}
use Rattle.std.proofs.lemmas.List.{length-take-le, drop-drop, take-append-drop, take-take, drop-take}
use Rattle.std.proofs.Math.Seq.{drop-cons}
use Rattle.sx_edge.specs.Places.{bytes_between}

pub length-between : (buf : List ℕ) (start end : ℕ) → end ≤ length buf → length (bytes_between buf start end) ≡ end - start
length-between buf start end within = length-take-le (end - start) (drop start buf) (omega (arith, length-drop start buf))

pub between_none : (buf : List ℕ) (place : ℕ) → bytes_between buf place place ≡ []
between_none buf place = let none : place - place ≡ 0 = omega arith in rw none refl

pub between_joins : (buf : List ℕ) (start mid end : ℕ) → start ≤ mid → mid ≤ end → bytes_between buf start end ≡ bytes_between buf start mid ++ bytes_between buf mid end
between_joins buf start mid end low high =
    let xs : List ℕ = drop start buf in
    let front : take (mid - start) (take (end - start) xs) ≡ take (mid - start) xs = take-take (mid - start) (end - start) xs (omega arith) in
    let width : end - start ≡ (mid - start) + (end - mid) = omega arith in
    let at : start + (mid - start) ≡ mid = omega arith in
    let back : drop (mid - start) (take (end - start) xs) ≡ take (end - mid) (drop mid buf) =
    rw width (drop-take (mid - start) (end - mid) xs ∙ ap (λ (l : List ℕ). take (end - mid) l) (drop-drop (mid - start) start buf ∙ ap (λ (n : ℕ). drop n buf) at)) in
    sym (take-append-drop (mid - start) (take (end - start) xs)) ∙ rw (front, back) refl

pub between_first : (buf : List ℕ) (start end : ℕ) → start < end → end ≤ length buf → bytes_between buf start end ≡ get_or buf start 0 ∷ bytes_between buf (start + 1) end
between_first buf start end some within =
    let width : end - start ≡ suc (end - (start + 1)) = omega arith in
    let inside : start < length buf = omega arith in
    let next : start + 1 ≡ suc start = omega arith in
    rw (width, drop-cons buf start 0, next) refl
