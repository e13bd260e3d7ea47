use Rattle.std.proofs.Common.{◌∙◌, ap, length}
use Rattle.sx_spec_strings.specs.Bits.{common_prefix}
use Rattle.sx_bits.specs.Views.{bits_of}
use Rattle.sx_pairs.specs.Pairs.{key_at}
use Rattle.sx_pairs.proofs.KeyRuns.{test_of_lengths}
use Rattle.sx_pairs.proofs.runs.begins.Goals as goal

pub returns : goal.returns
returns c =
    let p = bits_of c.args.prefix.now in
    test_of_lengths (key_at c.args.keys.now.lines c.args.i) p c.lcp.result c.len.result
    (c.lcp.ensures.value ∙ ap (λ x. length (common_prefix x p)) c.key_view.ensures) c.len.ensures.value
