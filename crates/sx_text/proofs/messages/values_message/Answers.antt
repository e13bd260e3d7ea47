use Rattle.sx_text.proofs.Texts.{few_values}
use Rattle.sx_text.proofs.messages.values_message.Goals as goal

pub returns-in-FewerThanKeys : goal.returns-in-FewerThanKeys
returns-in-FewerThanKeys c = rw (c.in-FewerThanKeys.is, ← few_values c.in-FewerThanKeys.values c.args.keys) c.few_values_text.ensures
