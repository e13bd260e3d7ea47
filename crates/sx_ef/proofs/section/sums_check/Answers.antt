use Rattle.std.proofs.Common.{◌∙◌, drop, ap, sym}
use Rattle.std.proofs.lemmas.List.{take_rest, drop-drop}
use Rattle.sx_ef.specs.Parts.{is_sums_list}
use Rattle.sx_ef.proofs.section.sums_check.Goals as goal

pub returns-clause-valid : goal.returns-clause-valid
returns-clause-valid c =
    let cut = ap (drop 2) (take_rest c.args.words.now c.args.at) ∙ drop-drop 2 c.args.at c.args.words.now in
    ap (is_sums_list c.args.count c.in_ok-below.below) (sym cut) ∙ c.in_ok-below.ensures.valid
