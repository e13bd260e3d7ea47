use Rattle.std.proofs.Common.{arith}
use Rattle.sx_sig.proofs.ChunkBits.{chunk_bits_are, chunk_bits_few}
use Rattle.sx_sig.proofs.chunks.chunk_bits.Goals as goal

pub returns-clause-value : goal.returns-clause-value
returns-clause-value c = chunk_bits_are c.args.pairs c.saturating_sub.result (omega arith) (omega arith)

pub returns-clause-bound : goal.returns-clause-bound
returns-clause-bound c = chunk_bits_few c.args.pairs c.saturating_sub.result (omega arith) (omega arith)
