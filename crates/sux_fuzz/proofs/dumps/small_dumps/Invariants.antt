-- Two dumps of each kind so far.
use Rattle.std.proofs.Common.{◌≡◌, ◌*◌, vec_len}
use Rattle.sux_fuzz.proofs.dumps.small_dumps.Given as goal

abbrev pub invariant-loop-kind : goal.invariant-loop-kind
invariant-loop-kind g l = vec_len l.dumps ≡ 2 * l.kind-index
