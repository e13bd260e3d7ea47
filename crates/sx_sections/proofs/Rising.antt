-- Signatures one after another, of which each is below the next.
use Rattle.std.proofs.Common.{◌≡◌, ℕ, zero, suc, ◌+◌, ◌-◌, ◌<◌, ◌≤◌, Bool, true, false, map, refl, ap, sym, ◌∙◌, arith}
use Rattle.std.specs.Prelude.{◌&&◌}
use Rattle.std.specs.List.{range_with_len}
use Rattle.std.specs.Ordering.{is_lt}
use Rattle.sx_spec.specs.declared.Signature.{Signature}
use Rattle.sx_spec.specs.Signature.{signature_cmp}
use Rattle.sx_sig.specs.SignatureWords.{rises}

module _ (f : ℕ → Signature) where
  abbrev from : ℕ → ℕ → Bool
  from k count = rises (map f (range_with_len k count))

  pub step : (k i n : ℕ) → k + 1 ≡ i → i < n → from k (n - k) ≡ (is_lt (signature_cmp (f k) (f i)) && from i (n - i))
  step k i n next more =
      let two : n - k ≡ suc (suc (n - i - 1)) = omega arith in
      let one : suc (n - i - 1) ≡ n - i = omega arith in
      ap (from k) two ∙ (λ t. is_lt (signature_cmp (f k) (f (next t))) && from (next t) (one t))

  one_or_none : (k n : ℕ) → n ≤ 1 → from k n ≡ true
  one_or_none k zero few = refl
  one_or_none k (suc zero) few = refl
  one_or_none k (suc (suc n)) few = absurd (omega arith)

  pub ends : (k n : ℕ) → n ≤ k + 1 → from k (n - k) ≡ true
  ends k n few = one_or_none k (n - k) (omega arith)

  -- one more that is below the next
  pub goes_on : (i n : ℕ) (test : Bool) → 1 ≤ i → i < n → from 0 n ≡ from (i - 1) (n - (i - 1)) → test ≡ is_lt (signature_cmp (f (i - 1)) (f i)) → test ≡ true → from 0 n ≡ from (i + 1 - 1) (n - (i + 1 - 1))
  goes_on i n test least more so is fits =
      let back : i - 1 + 1 ≡ i = omega arith in
      let same : i ≡ i + 1 - 1 = omega arith in
      so ∙ step (i - 1) i n back more
      ∙ ap (λ (b : Bool). b && from i (n - i)) (sym is ∙ fits)
      ∙ (λ t. from (same t) (n - same t))

  -- one that isn't
  pub stops : (i n : ℕ) (test : Bool) → 1 ≤ i → i < n → from 0 n ≡ from (i - 1) (n - (i - 1)) → test ≡ is_lt (signature_cmp (f (i - 1)) (f i)) → test ≡ false → false ≡ from 0 n
  stops i n test least more so is bad =
      let back : i - 1 + 1 ≡ i = omega arith in
      sym (so ∙ step (i - 1) i n back more ∙ ap (λ (b : Bool). b && from i (n - i)) (sym is ∙ bad))
