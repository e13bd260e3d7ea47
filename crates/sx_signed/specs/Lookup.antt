-- The place of a signature, where the number that is kept there is the signature's.
use Rattle.std.specs.Prelude.{ℕ, List, [], Option}
use Rattle.sx_spec.specs.declared.Signature.{Signature}
use Rattle.sx_spec.specs.Reply.{top_bits}
use Rattle.sx_spec_kinds.specs.Signed.{signed_place}

-- the place, where it is one of the list and the number kept there is the signature's: the signed place of any string with this
-- signature
abbrev pub place_of_signature : (kept : List ℕ) (width : ℕ) → Signature → Option ℕ → Option ℕ
place_of_signature kept width sig place = signed_place kept (λ _. top_bits width sig) [] place
