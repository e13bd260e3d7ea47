use Rattle.std.proofs.Common.{ℕ, List, Some, None, drop}
use Rattle.sx_bits.specs.Views.{bits_of}
use Rattle.sx_spec.specs.Fields.{fields}
use Rattle.sx_spec_kinds.specs.Blocks.{block_size}
use Rattle.sx_static.specs.Reading.{function_read}
use Rattle.sx_lcp.proofs.Replies.{lcp2_is}
use Rattle.sx_lcp.proofs.lcp2.Lcp2View.answer.Goals as goal

pub returns-in_err-block-clause-value : goal.returns-in_err-block-clause-value
returns-in_err-block-clause-value g c =
    let v = c.args.self.now in
    let table : List ℕ = fields v.table.width v.table.len (drop v.table.first (g.B.WordBank.words_of v.table.bank)) in
    lcp2_is c.args.seed c.args.sig_bits v.keys (block_size v.log_bucket) (function_read v.offsets) (function_read v.codes) table (function_read v.escaped) (function_read v.prefixes) (bits_of c.args.view.now)
    c.args.sig.now c.answer-offset.result c.length_of-len.result None _ c.requires.signed c.answer-offset.ensures.value c.length_of-len.ensures.value c.in_err-block.ensures.value c.from_residual.ensures

pub returns-clause-value : goal.returns-clause-value
returns-clause-value g c =
    let v = c.args.self.now in
    let table : List ℕ = fields v.table.width v.table.len (drop v.table.first (g.B.WordBank.words_of v.table.bank)) in
    lcp2_is c.args.seed c.args.sig_bits v.keys (block_size v.log_bucket) (function_read v.offsets) (function_read v.codes) table (function_read v.escaped) (function_read v.prefixes) (bits_of c.args.view.now)
    c.args.sig.now c.answer-offset.result c.length_of-len.result (Some c.in_ok-block.block) _ c.requires.signed c.answer-offset.ensures.value c.length_of-len.ensures.value c.in_ok-block.ensures.value c.place_in.ensures
