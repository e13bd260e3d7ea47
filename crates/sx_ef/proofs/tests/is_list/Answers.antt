use Rattle.std.proofs.Common.{refl}
use Rattle.sx_spec_strings.specs.Numbers.{binary_digits}
use Rattle.sx_spec_strings.specs.First.{least_from}
use Rattle.sx_ef.proofs.tests.is_list.Goals as goal

pub ef_valid-requires-clause-size : goal.ef_valid-requires-clause-size
unfolding binary_digits least_from
ef_valid-requires-clause-size c = refl
