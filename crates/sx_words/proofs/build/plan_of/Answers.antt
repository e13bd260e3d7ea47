use Rattle.sx_words.proofs.Plans.{plan_is}
use Rattle.sx_words.proofs.build.plan_of.Goals as goal

pub returns : goal.returns
returns c =
    plan_is c.args.arguments.now c.args.kind c.method_given.result c.option_number.result c.option_number-2.result c.option_number-3.result c.option_number-4.result
    c.requires c.method_given.ensures c.option_number.ensures c.option_number-2.ensures c.option_number-3.ensures c.option_number-4.ensures
