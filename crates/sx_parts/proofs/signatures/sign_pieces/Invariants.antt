use Rattle.std.proofs.Common.{◌≡◌, map, take}
use Rattle.sx_parts.specs.Sectioning.{piece_signature}
use Rattle.sx_parts.proofs.signatures.sign_pieces.Given as goal

abbrev pub invariant-loop-piece : goal.invariant-loop-piece
invariant-loop-piece l = l.sigs.items ≡ map (piece_signature l.seed l.sig_bits l.keys.lines) (take l.piece-index l.pieces)
