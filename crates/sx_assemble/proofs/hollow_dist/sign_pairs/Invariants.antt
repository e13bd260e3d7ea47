use Rattle.std.proofs.Common.{◌≡◌, map, take}
use Rattle.sx_parts.specs.Sectioning.{piece_signature}
use Rattle.sx_assemble.proofs.hollow_dist.sign_pairs.Given as goal

abbrev pub invariant-loop-pair : goal.invariant-loop-pair
invariant-loop-pair l = l.sigs.items ≡ map (λ p. piece_signature l.seed l.sig_bits l.keys.lines p.piece) (take l.pair-index l.pairs)
