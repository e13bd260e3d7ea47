use Rattle.std.proofs.Common.{◌≡◌, ◌*◌, take}
use Rattle.sx_spec.specs.Layout.{words_bytes}
use Rattle.sx_bytes.proofs.words.fill.Given as goal

abbrev pub invariant-loop-i : goal.invariant-loop-i
invariant-loop-i l = take (8 * l.i) l.buffer ≡ words_bytes (take l.i l.words)
