use Rattle.std.proofs.Common.{◌-◌, ◌∙◌, ◌/◌, ◌*◌, ◌^◌, ◌%◌, arith}
use Rattle.std.specs.Prelude.{bit_or}
use Rattle.sx_fields.proofs.WordFields.{masked, joined_words}
use Rattle.sx_fields.proofs.place.across.Goals as goal

pub returns : goal.returns
returns c =
    let t = 64 - c.args.shift in
    masked (bit_or (c.args.low / 2 ^ c.args.shift) (c.args.high * 2 ^ t % 2 ^ 64)) c.args.width (omega arith)
    ∙ joined_words c.args.low c.args.high c.args.shift t c.args.width (omega arith) (omega arith) (omega arith)
