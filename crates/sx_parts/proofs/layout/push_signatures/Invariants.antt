use Rattle.std.proofs.Common.{◌≡◌, ◌++◌, take}
use Rattle.std.specs.Prelude.{flat_map}
use Rattle.sx_spec.specs.Layout.{signature_words}
use Rattle.sx_parts.proofs.layout.push_signatures.Given as goal

abbrev pub invariant-loop-sig : goal.invariant-loop-sig
invariant-loop-sig l = l.words.items ≡ l.initial.words.items ++ flat_map signature_words (take l.sig-index l.sigs)
