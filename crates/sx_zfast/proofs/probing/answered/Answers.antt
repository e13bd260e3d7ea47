use Rattle.std.proofs.Common.{Some, sym, ap, ◌∙◌}
use Rattle.std.specs.Prelude.{take}
use Rattle.sx_spec_kinds.specs.Search.{handles_of}
use Rattle.sx_zfast.proofs.HandleAnswers.{node_of_handle}
use Rattle.sx_bits.specs.Views.{bits_of}
use Rattle.sx_zfast.specs.Maps.{map_read}
use Rattle.sx_zfast.proofs.probing.answered.Goals as goal

pub returns-in-Some-clause-value : goal.returns-in-Some-clause-value
returns-in-Some-clause-value g c es trie way knows =
    let x = bits_of c.args.view.now in
    let same = c.handled.ensures es x trie way c.requires.inside in
    ap Some c.from.ensures
    ∙ sym (node_of_handle (map_read c.args.map.now c.args.signing.seed c.args.signing.sig_bits) (handles_of es) (take c.args.len x) _ knows (sym same ∙ c.in-Some.is))
