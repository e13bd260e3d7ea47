use Rattle.std.proofs.Common.{arith}
use Rattle.sx_bits.specs.Views.{bits_of}
use Rattle.sx_static.specs.Reading.{function_read}
use Rattle.sx_lcp.proofs.Replies.{block_is}
use Rattle.sx_lcp.proofs.reply.block_by_prefix.Goals as goal

pub returns-clause-value : goal.returns-clause-value
returns-clause-value g c =
    block_is c.args.seed c.args.sig_bits (function_read c.args.prefixes.now) c.args.len (bits_of c.args.view.now) (bits_of c.prefix.result) c.sign-sig.result c.answer.result
    (omega arith) c.prefix.ensures c.sign-sig.ensures c.answer.ensures.value
