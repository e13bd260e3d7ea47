use Rattle.std.proofs.Common.{◌*◌, ◌++◌, length, take}
use Rattle.sha2.specs.Hashers.{Holds256}
use Rattle.sx_spec_strings.specs.Bits.{packed_bytes}
use Rattle.sx_bits.specs.Views.{bits_of}
use Rattle.sx_sig.specs.Heading.{heading}
use Rattle.sx_sig.proofs.signing.sign.Given as goal

abbrev pub invariant-pieces : goal.invariant-pieces
invariant-pieces l = Holds256 l.hasher (heading l.seed (length (bits_of l.view)) l.fn.tag ++ packed_bytes (take (512 * l.i) (bits_of l.view)))
