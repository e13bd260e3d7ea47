use Rattle.std.proofs.Common.{lit<, rules}
use Rattle.std.specs.Prelude.{is_some}
use Rattle.std.proofs.lemmas.Iterator.Search.{all_from_yields_List}
use Rattle.std.proofs.lemmas.Iterator.Splits.{YieldsList-from_str_split}
use Rattle.sx_spec.specs.Values.{value_on}
use Rattle.sx_words.proofs.seeds.are_numbers.Goals as goal

pub returns : goal.returns
returns c =
    all_from_yields_List (λ t. is_some (value_on t)) _ _ _ c.all.ensures.ran
    (YieldsList-from_str_split 44 c.args.text.now (lit< tt) c.split.ensures.text c.split.ensures.has_more c.split.ensures.pattern)
    (λ x b q k. search rules)
