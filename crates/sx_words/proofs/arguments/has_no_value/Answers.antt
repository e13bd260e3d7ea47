use Rattle.std.proofs.Common.{Bool, None, ◌&&◌, sym, ap}
use Rattle.sx_spec.specs.Command.{after_equals, is_no_value}
use Rattle.sx_words.proofs.Equals.{parts_at}
use Rattle.sx_words.proofs.arguments.has_no_value.Goals as goal

pub returns-in-None : goal.returns-in-None
returns-in-None c =
    let none = parts_at c.args.word.now None c.in-None.ensures.cases in
    ap (λ (b : Bool). b && is_no_value (after_equals c.args.word.now)) (sym none)
