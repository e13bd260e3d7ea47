use Rattle.std.proofs.Common.{◌≡◌, ◌∙◌, List, length, map, ap, arith}
use Rattle.std.proofs.lemmas.List.{length-map}
use Rattle.sx_spec.specs.StaticFunction.{Entry}
use Rattle.sx_assemble.specs.Handling.{entry_for}
use Rattle.sx_assemble.proofs.Corrections.{order_few}
use Rattle.sx_assemble.proofs.zfast.correction_lists.Goals as goal

pub block_list-requires : goal.block_list-requires
block_list-requires c =
    let entries : List Entry = map (entry_for c.args.sigs.now) c.args.corrected.now in
    let same = ap (λ (l : List Entry). length l) (c.deref-2.ensures.value ∙ c.in_ok-entries.ensures) in
    let most = order_few entries in
    let count : length entries ≡ length c.args.corrected.now = length-map c.args.corrected.now (entry_for c.args.sigs.now) in
    omega (arith, c.requires.few)
