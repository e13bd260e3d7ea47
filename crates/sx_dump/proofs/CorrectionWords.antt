-- The signatures that stand in words, one by one.
use Rattle.std.proofs.Common.{◌≡◌, ℕ, ◌<◌, List, length, Some, sym, ap, ◌∙◌, arith}
use Rattle.std.specs.Prelude.{slice_get}
use Rattle.std.proofs.lemmas.List.FromFn.{get_or-map-range_with_len, length-map-range_with_len}
use Rattle.std.proofs.lemmas.Option.{slice_get-get_or}
use Rattle.sx_spec.specs.declared.Signature.{Signature}
use Rattle.sx_sig.specs.SignatureWords.{signature_at, signatures_at}

module _ (words : List ℕ) (body count : ℕ) where
  -- so many
  pub signatures_count : length (signatures_at words body count) ≡ count
  signatures_count = length-map-range_with_len (signature_at words body) 0 count

  -- one of them
  pub signature_there : (i : ℕ) (sig : Signature) → i < count → sig ≡ signature_at words body i → slice_get (signatures_at words body count) i ≡ Some sig
  signature_there i sig within is =
      let size = signatures_count in
      let here : Signature = signature_at words body i in
      slice_get-get_or (signatures_at words body count) i here (omega (arith, size))
      ∙ ap (λ (s : Signature). Some s) (get_or-map-range_with_len (signature_at words body) 0 count i i here within (omega arith) ∙ sym is)
