-- The signatures of keys.
use Rattle.std.proofs.Common.{◌≡◌, ℕ, zero, suc, ◌+◌, List, [], ◌∷◌, ◌++◌, take, map, sym, ap, ◌∙◌, Some, None, add-one}
use Rattle.std.specs.Prelude.{slice_get}
use Rattle.sx_spec.specs.declared.Signature.{Signature}
use Rattle.sx_spec.specs.Command.{Text}
use Rattle.sx_spec.specs.Signature.{signature}
use Rattle.sx_spec_strings.specs.Bits.{Bits, key_bits, tagged}
use Rattle.sx_parts.specs.Assembling.{key_signature}

-- one key more
signed_more : (seed kept : ℕ) (lines : List Text) (i : ℕ) (bits : Bits) → slice_get (map key_bits lines) i ≡ Some bits → map (key_signature seed kept) (take (i + 1) lines) ≡ map (key_signature seed kept) (take i lines) ++ signature seed kept bits ∷ []
signed_more seed kept [] i bits at = absurd cc
signed_more seed kept (l ∷ lines) zero bits at = let same : key_bits l ≡ bits = cc in ap (λ (b : Bits). signature seed kept b ∷ []) same
signed_more seed kept (l ∷ lines) (suc i) bits at = rw add-one (ap (λ (s : List Signature). key_signature seed kept l ∷ s) (rw add-one at (signed_more seed kept lines i bits at)))

pub signed_push : (seed kept : ℕ) (lines : List Text) (sigs new : List Signature) (i : ℕ) (bits : Bits) (sig : Signature) → sigs ≡ map (key_signature seed kept) (take i lines) → slice_get (map key_bits lines) i ≡ Some bits
    → sig ≡ signature seed kept (tagged None bits) → new ≡ sigs ++ sig ∷ [] → new ≡ map (key_signature seed kept) (take (i + 1) lines)
unfolding tagged
signed_push seed kept lines sigs new i bits sig so_far at is pushed =
    pushed ∙ ap (λ (s : Signature). sigs ++ s ∷ []) is ∙ ap (λ (l : List Signature). l ++ signature seed kept bits ∷ []) so_far ∙ sym (signed_more seed kept lines i bits at)
