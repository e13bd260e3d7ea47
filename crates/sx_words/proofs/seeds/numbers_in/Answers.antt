use Rattle.std.proofs.Common.{lit<, rules}
use Rattle.std.specs.Prelude.{unwrap_or}
use Rattle.std.proofs.lemmas.Iterator.{items_from_collect, YieldsList-from_map}
use Rattle.std.proofs.lemmas.Iterator.Splits.{YieldsList-from_str_split}
use Rattle.sx_spec.specs.Values.{value_on}
use Rattle.sx_words.proofs.seeds.numbers_in.Goals as goal

pub returns : goal.returns
returns c =
    items_from_collect _ c.collect.ensures.ran
    (YieldsList-from_map _ (λ t. unwrap_or (value_on t) 0)
    (YieldsList-from_str_split 44 c.args.text.now (lit< tt) (cc) (cc) (cc))
    c.map.ensures.closure (λ x r q k. search rules))
