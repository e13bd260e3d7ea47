use Rattle.std.proofs.Common.{◌≡◌, ℕ, List, Option, Some, None, refl, ap, ◌∙◌}
use Rattle.sx_bits.specs.Views.{bits_of}
use Rattle.sx_spec_strings.specs.Bits.{Bits}
use Rattle.sx_spec_kinds.specs.Blocks.{block_size, reply_in}
use Rattle.sx_spec_kinds.specs.HollowDistributor.{hollow_block, hollow_dist_reply}
use Rattle.sx_spec.specs.Reply.{gaps}
use Rattle.sx_spec.specs.StaticFunction.{value_of}
use Rattle.sx_hollow.specs.Views.{sums_read}
use Rattle.sx_static.specs.Reading.{answers_by, function_read}
use Rattle.sx_distributors.proofs.Untagged.{untagged}
use Rattle.sx_distributors.proofs.hollow.HollowDistributor.answer.Goals as goal

-- the reply is the place of the offset in the block, if there is one
dist_is : (n b : ℕ) (left skip : List ℕ) (offsets turns : Bits → ℕ) (count : ℕ) (x : Bits) (offset : ℕ) (block reply : Option ℕ)
    → offset ≡ offsets x → block ≡ hollow_block left skip turns count x → reply ≡ reply_in n b offset block → reply ≡ hollow_dist_reply n b left skip offsets turns count x
unfolding hollow_dist_reply
dist_is n b left skip offsets turns count x offset block reply at found is = is ∙ (λ i. reply_in n b (at i) (found i))

pub returns-in_err-block-clause-value : goal.returns-in_err-block-clause-value
returns-in_err-block-clause-value g c =
    let v = c.args.self.now in
    let x = bits_of c.args.view.now in
    dist_is v.keys (block_size v.log_bucket) (gaps (sums_read v.blocks.left)) (gaps (sums_read v.blocks.skip)) (answers_by v.offsets c.args.seed c.args.sig_bits)
    (answers_by v.blocks.turns c.args.seed c.args.sig_bits) v.blocks.delimiters x (answers_by v.offsets c.args.seed c.args.sig_bits x) None _
    refl c.in_err-block.ensures.value c.from_residual.ensures

pub returns-clause-value : goal.returns-clause-value
returns-clause-value g c =
    let v = c.args.self.now in
    let x = bits_of c.args.view.now in
    dist_is _ _ (gaps (sums_read v.blocks.left)) (gaps (sums_read v.blocks.skip)) (answers_by v.offsets c.args.seed c.args.sig_bits)
    (answers_by v.blocks.turns c.args.seed c.args.sig_bits) v.blocks.delimiters x _ (Some c.in_ok-block.block) _
    (c.answer-offset.ensures.value ∙ ap (value_of (function_read v.offsets)) (untagged c.args.seed c.args.sig_bits x c.args.sig.now c.requires.signed))
    c.in_ok-block.ensures.value c.place_in.ensures
