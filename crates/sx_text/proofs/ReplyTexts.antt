-- Replies in decimal.
use Rattle.std.proofs.Common.{◌≡◌, ℕ, refl, Option, Some, None}
use Rattle.std.specs.Fmt.{signed_decimal, digits}
use Rattle.sx_spec.specs.Reply.{reply_number, reply_text}

pub reply_decimal : (r : Option ℕ) → signed_decimal (reply_number r) ≡ reply_text r
unfolding digits
reply_decimal None = refl
reply_decimal (Some n) = refl
