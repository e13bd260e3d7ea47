use Rattle.std.proofs.Common.{List, ℕ, sym, subst}
use Rattle.sx_spec.specs.Reply.{gaps}
use Rattle.sx_hollow.specs.Tops.{AreKept}
use Rattle.sx_hollow.specs.Views.{sums_read}
use Rattle.sx_hollow.proofs.dist.HollowDistView+B+WordsBuf.build.Goals as goal

pub over-requires-clause-kept : goal.over-requires-clause-kept
over-requires-clause-kept g c =
    subst (λ (words : List ℕ). AreKept (gaps (sums_read c.args.left)) (gaps (sums_read c.args.skip)) words) (sym c.new-top.ensures) c.in_ok-top.ensures.kept
