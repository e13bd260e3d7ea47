use Rattle.std.proofs.Common.{◌≡◌, ℕ, ◌∷◌, [], refl, codes, decimal}
use Rattle.sx_spec.specs.Messages.{message, key_text}
use Rattle.sx_text.specs.declared.messages.KeyReason.{KeyReason}
use Rattle.sx_text.specs.declared.messages.KeyReason.TheVariants.{TooLong, ZeroByte, Doubled, Unordered, TooManyKeys, TooManyBytes}
use Rattle.sx_text.specs.Reasons.{fault_of, told_of}
use Rattle.sx_text.proofs.messages.key_message.Goals as goal

told_whole : (line : ℕ) (reason : KeyReason) → message (codes "line " ∷ decimal line ∷ told_of reason ∷ []) ≡ key_text (fault_of line reason)
told_whole line TooLong = refl
told_whole line ZeroByte = refl
told_whole line Doubled = refl
told_whole line Unordered = refl
told_whole line TooManyKeys = refl
told_whole line TooManyBytes = refl

pub returns : goal.returns
returns c =
    let told : message (codes "line " ∷ decimal c.args.line ∷ c.reason_text.result.now ∷ []) ≡ key_text (fault_of c.args.line c.args.reason) = rw c.reason_text.ensures (told_whole c.args.line c.args.reason) in
    rw (← told) c.numbered_text.ensures
