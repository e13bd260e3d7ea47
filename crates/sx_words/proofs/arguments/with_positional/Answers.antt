use Rattle.std.proofs.Common.{◌∙◌, List, map, ap, sym, arith}
use Rattle.std.proofs.lemmas.List.{take_all}
use Rattle.std.proofs.lemmas.Simd.{map-map}
use Rattle.clap.specs.Words.{Rule, app_of, with_rule}
use Rattle.sx_words.specs.Parsers.{with_rules, positional_rule}
use Rattle.sx_words.proofs.Adding.{one_more}
use Rattle.sx_words.proofs.arguments.with_positional.Goals as goal

pub loop-id-preserved : goal.loop-id-preserved
loop-id-preserved c =
    one_more (λ id. positional_rule id.now) c.positional_ids-id-items.result.now c.loop-id.id-index _ (app_of c.args.parser) (app_of c.loop-id.parser) (app_of c.in_ok-parser.parser) c.loop-id-test.true c.loop-id.invariant
    (c.in_ok-parser.ensures.shape c.positional.ensures.local ∙ ap (with_rule (app_of c.loop-id.parser)) c.positional.ensures.rule)

pub returns : goal.returns
returns c =
    let ids = c.positional_ids-id-items.result.now in
    c.loop-id.invariant
    ∙ ap (λ (rules : List Rule). with_rules (app_of c.args.parser) rules) (ap (map (λ id. positional_rule id.now)) (take_all c.loop-id.id-index ids (omega arith))
    ∙ sym (map-map positional_rule (λ id. id.now) ids) ∙ ap (map positional_rule) c.positional_ids-id-items.ensures)
