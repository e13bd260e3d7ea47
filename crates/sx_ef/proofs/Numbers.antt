-- The numbers of an Elias-Fano list, one by one.
use Rattle.std.proofs.Common.{◌≡◌, ℕ, zero, suc, ◌+◌, ◌-◌, ◌*◌, ◌^◌, ◌<◌, ◌≤◌, true, List, [], ◌∷◌, ◌++◌, length, map, get_or, Option, Some, None, refl, ap, ◌∙◌, arith}
use Rattle.std.specs.Prelude.{nat_le, unwrap_or}
use Rattle.std.specs.List.{last_or, enumerate_from}
use Rattle.std.proofs.lemmas.Bool.{and_parts, le-leb, leb-true}
use Rattle.sx_spec.specs.Fields.{joined}
use Rattle.sx_ef.specs.Parts.{never_falls}

-- the numbers from number n on
abbrev pub sums_from : ℕ → ℕ → List ℕ → List ℕ → List ℕ
sums_from n l ones lows = joined l (map (λ (p : ℕ × ℕ). p.1 - p.0) (enumerate_from n ones)) lows

-- number i
pub sums_at : (n l : ℕ) (ones lows : List ℕ) (i : ℕ) → i < length ones → i < length lows → get_or (sums_from n l ones lows) i 0 ≡ (get_or ones i 0 - (n + i)) * 2 ^ l + get_or lows i 0
sums_at n l [] lows i here there = absurd (omega arith)
sums_at n l (p ∷ ones) [] i here there = absurd (omega arith)
sums_at n l (p ∷ ones) (r ∷ lows) zero here there = let e : n ≡ n + 0 = omega arith in ap (λ m. (p - m) * 2 ^ l + r) e
sums_at n l (p ∷ ones) (r ∷ lows) (suc i) here there =
    let e : n + 1 + i ≡ n + suc i = omega arith in
    sums_at (n + 1) l ones lows i (omega arith) (omega arith) ∙ ap (λ m. (get_or ones i 0 - m) * 2 ^ l + get_or lows i 0) e

pub length-sums : (n l : ℕ) (ones lows : List ℕ) → length ones ≤ length lows → length (sums_from n l ones lows) ≡ length ones
length-sums n l [] lows fits = refl
length-sums n l (p ∷ ones) [] fits = absurd (omega arith)
length-sums n l (p ∷ ones) (r ∷ lows) fits = ap suc (length-sums (n + 1) l ones lows (omega arith))

-- a one more is a number more
pub sums_push : (n l : ℕ) (ones lows : List ℕ) (p : ℕ) → length ones < length lows → sums_from n l (ones ++ p ∷ []) lows ≡ sums_from n l ones lows ++ ((p - (n + length ones)) * 2 ^ l + get_or lows (length ones) 0) ∷ []
sums_push n l [] [] p fits = absurd (omega arith)
sums_push n l [] (r ∷ lows) p fits = let e : n ≡ n + 0 = omega arith in ap (λ m. ((p - m) * 2 ^ l + r) ∷ []) e
sums_push n l (q ∷ ones) [] p fits = absurd (omega arith)
sums_push n l (q ∷ ones) (r ∷ lows) p fits =
    let e : n + 1 + length ones ≡ n + suc (length ones) = omega arith in
    ap (λ xs. ((q - n) * 2 ^ l + r) ∷ xs)
    (sums_push (n + 1) l ones lows p (omega arith)
    ∙ ap (λ m. sums_from (n + 1) l ones lows ++ ((p - m) * 2 ^ l + get_or lows (length ones) 0) ∷ []) e)

-- more ones only add numbers behind
pub sums_more : (n l : ℕ) (ones more lows : List ℕ) → (rest : List ℕ) × (sums_from n l (ones ++ more) lows ≡ sums_from n l ones lows ++ rest)
sums_more n l [] more lows = (sums_from n l more lows, refl)
sums_more n l (p ∷ ones) more [] = ([], refl)
sums_more n l (p ∷ ones) more (r ∷ lows) =
    let (rest, e) = sums_more (n + 1) l ones more lows in
    (rest, ap (λ xs. ((p - n) * 2 ^ l + r) ∷ xs) e)

-- ---- numbers that never fall

abbrev pub last_of : List ℕ → ℕ
last_of xs = unwrap_or (last_or None xs) 0

last_kept : (o : Option ℕ) (x : ℕ) (xs : List ℕ) → last_or o (x ∷ xs) ≡ last_or (Some x) xs
last_kept o x xs = refl

pub last_pushed : (o : Option ℕ) (xs : List ℕ) (y : ℕ) → last_or o (xs ++ y ∷ []) ≡ Some y
last_pushed o [] y = refl
last_pushed o (x ∷ xs) y = last_pushed (Some x) xs y

pub falls_parts : (x y : ℕ) (xs : List ℕ) → never_falls (x ∷ y ∷ xs) ≡ true → (x ≤ y) × (never_falls (y ∷ xs) ≡ true)
falls_parts x y xs h = let both = and_parts (nat_le x y) (never_falls (y ∷ xs)) h in (leb-true x y both.0, both.1)

pub falls_join : (x y : ℕ) (xs : List ℕ) → x ≤ y → never_falls (y ∷ xs) ≡ true → never_falls (x ∷ y ∷ xs) ≡ true
falls_join x y xs le rest = rw (le-leb x y le) rest

-- a number behind that isn't below the last keeps them from falling
pub keeps_pushed : (xs : List ℕ) (y : ℕ) → never_falls xs ≡ true → last_of xs ≤ y → never_falls (xs ++ y ∷ []) ≡ true
keeps_pushed [] y keeps le = refl
keeps_pushed (x ∷ []) y keeps le = falls_join x y [] le refl
keeps_pushed (x ∷ z ∷ xs) y keeps le =
    let (first, rest) = falls_parts x z xs keeps in falls_join x z (xs ++ y ∷ []) first (keeps_pushed (z ∷ xs) y rest le)

-- the last of numbers that never fall isn't below the one before it
pub pushed_keeps : (xs : List ℕ) (y : ℕ) → never_falls (xs ++ y ∷ []) ≡ true → last_of xs ≤ y
pushed_keeps [] y keeps = omega arith
pushed_keeps (x ∷ []) y keeps = (falls_parts x y [] keeps).0
pushed_keeps (x ∷ z ∷ xs) y keeps = pushed_keeps (z ∷ xs) y (falls_parts x z (xs ++ y ∷ []) keeps).1

-- the first of numbers that never fall never fall
pub keeps_front : (xs ys : List ℕ) → never_falls (xs ++ ys) ≡ true → never_falls xs ≡ true
keeps_front [] ys keeps = refl
keeps_front (x ∷ []) ys keeps = refl
keeps_front (x ∷ z ∷ xs) ys keeps =
    let (first, rest) = falls_parts x z (xs ++ ys) keeps in falls_join x z xs first (keeps_front (z ∷ xs) ys rest)

-- no number is above the last
pub below_last : (xs : List ℕ) (i : ℕ) → never_falls xs ≡ true → i < length xs → get_or xs i 0 ≤ last_of xs
below_last [] i keeps within = absurd (omega arith)
below_last (x ∷ []) zero keeps within = omega arith
below_last (x ∷ []) (suc i) keeps within = absurd (omega arith)
below_last (x ∷ z ∷ xs) zero keeps within =
    let (first, rest) = falls_parts x z xs keeps in let more = below_last (z ∷ xs) zero rest (omega arith) in omega arith
below_last (x ∷ z ∷ xs) (suc i) keeps within = below_last (z ∷ xs) i (falls_parts x z xs keeps).1 (omega arith)
