use Rattle.std.proofs.Common.{List, ℕ, ◌++◌, ap, ◌∙◌}
use Rattle.std.specs.Fmt.{signed_decimal}
use Rattle.std.specs.Int.{w128}
use Rattle.std.proofs.lemmas.Int.{to_z-of_z}
use Rattle.sx_text.proofs.ReplyTexts.{reply_decimal}
use Rattle.sx_text.proofs.buffer.TextBuffer.push_wide.Goals as goal

pub returns-clause-text : goal.returns-clause-text
returns-clause-text c =
    c.push.ensures ∙ ap (λ (l : List ℕ). c.args.self.now ++ l) (c.as_bytes.ensures.value ∙ c.format.ensures.text ∙ ap signed_decimal (to_z-of_z w128 c.args.reply c.ranges.reply))

pub returns-clause-value : goal.returns-clause-value
returns-clause-value c = λ r is.
    c.push.ensures ∙ ap (λ (l : List ℕ). c.args.self.now ++ l) (c.as_bytes.ensures.value ∙ c.format.ensures.text ∙ ap signed_decimal (to_z-of_z w128 c.args.reply c.ranges.reply ∙ is) ∙ reply_decimal r)
