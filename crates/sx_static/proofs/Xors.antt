-- A cell that makes up for the other two.
use Rattle.std.proofs.Common.{◌≡◌, ◌≢◌, ℕ, ◌<◌, ◌^◌, All, List, length, get_or, set, sym, ap, ◌∙◌}
use Rattle.std.specs.Prelude.{bit_xor}
use Rattle.std.specs.Int.Bits.{xor_assoc, xor_self, xor_zero_r}
use Rattle.std.proofs.lemmas.List.{get_or-set_same, get_or-set_other}
use Rattle.std.proofs.lemmas.Nat.{xor_comm, xor_lt}
use Rattle.std.proofs.lemmas.List.Elements.{All-set}
use Rattle.sx_spec.specs.declared.Edge.{Edge}
use Rattle.sx_spec.specs.Systems.{cells_at}
use Rattle.sx_peel.specs.Peeling.{IsEdgeWithin}

xor_back : (a v : ℕ) → bit_xor a (bit_xor v a) ≡ v
xor_back a v = ap (bit_xor a) (xor_comm v a) ∙ sym (xor_assoc a a v) ∙ ap (λ z. bit_xor z v) (xor_self a)

second : (a v c : ℕ) → bit_xor (bit_xor a (bit_xor (bit_xor v a) c)) c ≡ v
second a v c =
    ap (λ z. bit_xor z c) (sym (xor_assoc a (bit_xor v a) c))
    ∙ ap (λ z. bit_xor (bit_xor z c) c) (xor_back a v)
    ∙ xor_assoc v c c ∙ ap (bit_xor v) (xor_self c) ∙ xor_zero_r v

third : (a b v : ℕ) → bit_xor (bit_xor a b) (bit_xor (bit_xor v a) b) ≡ v
third a b v = ap (bit_xor (bit_xor a b)) (xor_assoc v a b) ∙ xor_back (bit_xor a b) v

module _ (cells : List ℕ) (e : Edge) (value : ℕ) (within : IsEdgeWithin (length cells) e) where
  pub met_by_second : cells_at (set cells e.b (bit_xor (bit_xor value (get_or cells e.a 0)) (get_or cells e.c 0))) e ≡ value
  met_by_second =
      let w = bit_xor (bit_xor value (get_or cells e.a 0)) (get_or cells e.c 0) in
      let cb : e.c ≢ e.b = λ h. within.bc (sym h) in
      rw (get_or-set_other cells e.b e.a w 0 within.ab, get_or-set_same cells e.b w 0 within.b, get_or-set_other cells e.b e.c w 0 cb)
      (second (get_or cells e.a 0) value (get_or cells e.c 0))

  pub met_by_third : cells_at (set cells e.c (bit_xor (bit_xor value (get_or cells e.a 0)) (get_or cells e.b 0))) e ≡ value
  met_by_third =
      let w = bit_xor (bit_xor value (get_or cells e.a 0)) (get_or cells e.b 0) in
      rw (get_or-set_other cells e.c e.a w 0 within.ac, get_or-set_same cells e.c w 0 within.c, get_or-set_other cells e.c e.b w 0 within.bc)
      (third (get_or cells e.a 0) (get_or cells e.b 0) value)

-- a cell of two cells and a value is below a power of two as they are
xor_below : (n a b c : ℕ) → a < 2 ^ n → b < 2 ^ n → c < 2 ^ n → bit_xor (bit_xor a b) c < 2 ^ n
xor_below n a b c small_a small_b small_c = xor_lt n (bit_xor a b) c (xor_lt n a b small_a small_b) small_c

pub below_set : (n : ℕ) (cells : List ℕ) (i j k value : ℕ) → j < length cells → k < length cells → value < 2 ^ n → All (λ w. w < 2 ^ n) cells
    → All (λ w. w < 2 ^ n) (set cells i (bit_xor (bit_xor value (get_or cells j 0)) (get_or cells k 0)))
below_set n cells i j k value in_j in_k small below =
    All-set (λ w. w < 2 ^ n) cells i (bit_xor (bit_xor value (get_or cells j 0)) (get_or cells k 0))
    (xor_below n value (get_or cells j 0) (get_or cells k 0) small (below j 0 in_j) (below k 0 in_k)) below
