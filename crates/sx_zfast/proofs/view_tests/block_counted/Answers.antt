use Rattle.std.proofs.Common.{ap, ◌∙◌}
use Rattle.sx_spec.specs.Signature.{signature}
use Rattle.sx_zfast.proofs.MapNodes.{untagged}
use Rattle.sx_zfast.proofs.view_tests.block_counted.Goals as goal

pub block-requires-clause-signed : goal.block-requires-clause-signed
block-requires-clause-signed g c = c.sign-sig.ensures ∙ ap (signature 0 192) (untagged _)
