use Rattle.std.proofs.Common.{◌%◌, ℕ, Some, None, ap, refl}
use Rattle.sx_bits.specs.Views.{bits_of}
use Rattle.sx_spec_kinds.specs.Blocks.{block_size}
use Rattle.sx_static.specs.Reading.{function_read}
use Rattle.sx_lcp.proofs.Replies.{lcp_is, size_is}
use Rattle.sx_lcp.proofs.lcp.LcpView.answer.Goals as goal

pub returns-in_err-block-clause-value : goal.returns-in_err-block-clause-value
returns-in_err-block-clause-value g c =
    let v = c.args.self.now in
    let number = c.answer-number.result in
    lcp_is c.args.seed c.args.sig_bits v.keys (block_size v.log_bucket) (function_read v.lengths) (function_read v.prefixes) (bits_of c.args.view.now) c.args.sig.now number (number % block_size v.log_bucket) None _
    c.requires.signed c.answer-number.ensures.value refl c.in_err-block.ensures.value c.from_residual.ensures

pub returns-clause-value : goal.returns-clause-value
returns-clause-value g c =
    let v = c.args.self.now in
    let number = c.answer-number.result in
    lcp_is c.args.seed c.args.sig_bits v.keys (block_size v.log_bucket) (function_read v.lengths) (function_read v.prefixes) (bits_of c.args.view.now) c.args.sig.now number _ (Some c.in_ok-block.block) _
    c.requires.signed c.answer-number.ensures.value (ap (λ (s : ℕ). number % s) (size_is v.log_bucket v.bucket)) c.in_ok-block.ensures.value c.place_in.ensures
