use Rattle.std.proofs.Common.{◌%◌, ◌∙◌, sym}
use Rattle.std.proofs.lemmas.Bool.{eq-eqb}
use Rattle.sx_fields.proofs.Padding.{words_at, padding_none, padding_last}
use Rattle.sx_fields.proofs.section.is_zero_after.Goals as goal

pub returns-then-bits-eq0 : goal.returns-then-bits-eq0
returns-then-bits-eq0 c =
    eq-eqb (c.args.bits % 64) 0 c.if-bits-eq0.true
    ∙ sym (padding_none c.args.words.now c.args.bits (words_at c.args.words.now c.type_inv.words) c.requires c.if-bits-eq0.true)

pub returns-else-bits-eq0 : goal.returns-else-bits-eq0
returns-else-bits-eq0 c =
    padding_last c.args.words.now c.args.bits (words_at c.args.words.now c.type_inv.words) c.requires c.if-bits-eq0.false
