use Rattle.std.proofs.Common.{◌∙◌, sym, string_bytes, rules}
use Rattle.std.proofs.lemmas.Iterator.{YieldsList-from_slice}
use Rattle.std.proofs.lemmas.Iterator.Search.{all_from_yields_List}
use Rattle.std.proofs.lemmas.List.Folds.{list_all-map}
use Rattle.sx_words.specs.Arguments.{may_stand}
use Rattle.sx_words.proofs.arguments.all_may_stand.Goals as goal

pub returns : goal.returns
returns c =
    all_from_yields_List (λ word. may_stand (string_bytes word)) _ _ _ c.all.ensures.ran (YieldsList-from_slice c.args.words.now c.iter.ensures.rest) (λ x b q k. search rules)
    ∙ sym (list_all-map may_stand (λ word. string_bytes word) c.args.words.now)
