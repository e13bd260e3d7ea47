use Rattle.std.proofs.Common.{◌≡◌, map, take}
use Rattle.sx_parts.specs.Assembling.{key_signature}
use Rattle.sx_parts.proofs.signatures.sign_keys.Given as goal

abbrev pub invariant-loop-i : goal.invariant-loop-i
invariant-loop-i l = l.sigs.items ≡ map (key_signature l.seed l.sig_bits) (take l.i l.keys.lines)
