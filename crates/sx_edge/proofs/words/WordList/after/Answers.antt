use Rattle.std.proofs.Common.{◌∙◌, ◌-◌, rules, sym, ap, arith, List, ℕ, drop, map, length, string_bytes, String, Global}
use Rattle.std.specs.List.{drop-map}
use Rattle.std.proofs.lemmas.List.{take_all, length-drop}
use Rattle.sx_edge.proofs.words.WordList.after.Goals as goal

pub returns : goal.returns
returns c =
    let rest = drop c.args.count c.deref.result.now in
    ap (map (λ word. string_bytes word)) (take_all (length c.deref.result.now - c.args.count) rest (omega (arith, length-drop c.args.count c.deref.result.now)))
    ∙ sym (drop-map (λ (word : String Global). string_bytes word) c.args.count c.deref.result.now) ∙ ap (drop c.args.count) (search rules)
