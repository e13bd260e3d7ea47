-- Places that are answered only where the number that is kept there is the signature's.
use Rattle.std.proofs.Common.{◌≡◌, ℕ, Bool, true, false, ◌<◌, ◌≤◌, List, length, slice_index, Option, Some, None, refl, sym, ap, ◌∙◌}
use Rattle.std.specs.Prelude.{◌==◌, ◌&&◌, if◌then◌else◌}
use Rattle.std.proofs.lemmas.Bool.{le-ltb, lt-ltb}
use Rattle.sx_spec_strings.specs.Bits.{Bits}
use Rattle.sx_spec_kinds.specs.Signed.{signed_place}
use Rattle.sx_spec.specs.declared.Signature.{Signature}
use Rattle.sx_spec.specs.Reply.{top_bits}
use Rattle.sx_signed.specs.Lookup.{place_of_signature}

-- the signed place of a string is that of its signature
pub signed_by_signature : (kept : List ℕ) (width : ℕ) (sign : Bits → Signature) (x : Bits) (place : Option ℕ)
    → place_of_signature kept width (sign x) place ≡ signed_place kept (λ y. top_bits width (sign y)) x place
unfolding signed_place
signed_by_signature kept width sign x None = refl
signed_by_signature kept width sign x (Some p) = refl

-- no place stays none
pub none_signed : (kept : List ℕ) (mark_of : Bits → ℕ) (x : Bits) → None ≡ signed_place kept mark_of x None
unfolding signed_place
none_signed kept mark_of x = refl

-- a place of the list, by what is kept there
place_by : (kept : List ℕ) (width : ℕ) (sig : Signature) (p : ℕ) (same : Bool) → p < length kept → same ≡ (slice_index kept p == top_bits width sig)
    → (if same then Some p else None) ≡ place_of_signature kept width sig (Some p)
unfolding signed_place
place_by kept width sig p same within is =
    ap (λ (t : Bool). if t then Some p else None) is
    ∙ sym (ap (λ (t : Bool). if t && (slice_index kept p == top_bits width sig) then Some p else None) (lt-ltb p (length kept) within))

-- the signature's number is kept at its place
pub place_there : (kept : List ℕ) (width : ℕ) (sig : Signature) (p : ℕ) (same : Bool) → p < length kept → same ≡ (slice_index kept p == top_bits width sig)
    → same ≡ true → Some p ≡ place_of_signature kept width sig (Some p)
place_there kept width sig p same within is agree = sym (ap (λ (t : Bool). if t then Some p else None) agree) ∙ place_by kept width sig p same within is

-- another number is kept there
pub place_of_other : (kept : List ℕ) (width : ℕ) (sig : Signature) (p : ℕ) (same : Bool) → p < length kept → same ≡ (slice_index kept p == top_bits width sig)
    → same ≡ false → None ≡ place_of_signature kept width sig (Some p)
place_of_other kept width sig p same within is differ = sym (ap (λ (t : Bool). if t then Some p else None) differ) ∙ place_by kept width sig p same within is

-- there is no such place
pub place_past_end : (kept : List ℕ) (width : ℕ) (sig : Signature) (p : ℕ) → length kept ≤ p → None ≡ place_of_signature kept width sig (Some p)
unfolding signed_place
place_past_end kept width sig p past =
    sym (ap (λ (t : Bool). if t && (slice_index kept p == top_bits width sig) then Some p else None) (le-ltb p (length kept) past))
