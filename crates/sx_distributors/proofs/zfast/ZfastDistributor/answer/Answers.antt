use Rattle.std.proofs.Common.{◌≡◌, ℕ, List, Option, Some, None, refl, ap, ◌∙◌}
use Rattle.sx_bits.specs.Views.{bits_of}
use Rattle.sx_spec_strings.specs.Bits.{Bits}
use Rattle.sx_spec_kinds.specs.Blocks.{block_size, reply_in}
use Rattle.sx_spec_kinds.specs.Trie.{Node}
use Rattle.sx_spec_kinds.specs.Zfast.{HandleMap, zfast_block, zfast_reply}
use Rattle.sx_spec.specs.StaticFunction.{value_of}
use Rattle.sx_static.specs.Reading.{answers_by, function_read}
use Rattle.sx_zfast.specs.Maps.{map_read}
use Rattle.sx_zfast.specs.Views.{corrected_by, nodes_read}
use Rattle.sx_distributors.proofs.Untagged.{untagged}
use Rattle.sx_distributors.proofs.zfast.ZfastDistributor.answer.Goals as goal

-- the reply is the place of the offset in the block, if there is one
zfast_is : (n b : ℕ) (offsets : Bits → ℕ) (count : ℕ) (nodes : List Node) (m : HandleMap) (codes : Bits → ℕ) (corrected : Bits → Option ℕ) (x : Bits) (offset : ℕ) (block reply : Option ℕ)
    → offset ≡ offsets x → block ≡ zfast_block count nodes m codes corrected x → reply ≡ reply_in n b offset block → reply ≡ zfast_reply n b offsets count nodes m codes corrected x
unfolding zfast_reply
zfast_is n b offsets count nodes m codes corrected x offset block reply at found is = is ∙ (λ i. reply_in n b (at i) (found i))

pub block-requires-clause-signed : goal.block-requires-clause-signed
block-requires-clause-signed g c = untagged c.args.seed c.args.sig_bits (bits_of c.args.view.now) c.args.sig.now c.requires.signed

pub returns-in_err-block-clause-value : goal.returns-in_err-block-clause-value
returns-in_err-block-clause-value g c =
    let v = c.args.self.now in
    let x = bits_of c.args.view.now in
    zfast_is v.keys (block_size v.log_bucket) (answers_by v.offsets c.args.seed c.args.sig_bits) v.blocks.delimiters (nodes_read v.blocks) (map_read v.blocks.map c.args.seed c.args.sig_bits)
    (answers_by v.blocks.codes c.args.seed c.args.sig_bits) (corrected_by v.blocks.corrections c.args.seed c.args.sig_bits) x (answers_by v.offsets c.args.seed c.args.sig_bits x) None _
    refl c.in_err-block.ensures.value c.from_residual.ensures

pub returns-clause-value : goal.returns-clause-value
returns-clause-value g c =
    let v = c.args.self.now in
    let x = bits_of c.args.view.now in
    zfast_is _ _ (answers_by v.offsets c.args.seed c.args.sig_bits) v.blocks.delimiters (nodes_read v.blocks) (map_read v.blocks.map c.args.seed c.args.sig_bits)
    (answers_by v.blocks.codes c.args.seed c.args.sig_bits) (corrected_by v.blocks.corrections c.args.seed c.args.sig_bits) x _ (Some c.in_ok-block.block) _
    (c.answer-offset.ensures.value ∙ ap (value_of (function_read v.offsets)) (untagged c.args.seed c.args.sig_bits x c.args.sig.now c.requires.signed))
    c.in_ok-block.ensures.value c.place_in.ensures
