use Rattle.std.proofs.Common.{length, arith}
use Rattle.sx_bits.proofs.Cuts.{cut_at, piece_within}
use Rattle.sx_bits.proofs.keys.piece_of.Goals as goal

pub slice_bounds-result-count : goal.slice_bounds-result-count
slice_bounds-result-count c = let within = piece_within 0 c.args.ends.now (length c.args.bytes.now) c.args.i c.requires.cut c.requires.within in omega arith

pub slice_bounds-result-start : goal.slice_bounds-result-start
slice_bounds-result-start c = let within = piece_within 0 c.args.ends.now (length c.args.bytes.now) c.args.i c.requires.cut c.requires.within in omega arith

pub slice_bounds-result-end : goal.slice_bounds-result-end
slice_bounds-result-end c = let within = piece_within 0 c.args.ends.now (length c.args.bytes.now) c.args.i c.requires.cut c.requires.within in omega arith

pub returns : goal.returns
returns c = rw c.start_of-start.ensures (cut_at 0 c.args.ends.now c.args.bytes.now c.args.i c.requires.within)
