use Rattle.std.proofs.Common.{ℕ, Some, sym, ap, ◌∙◌, arith}
use Rattle.sx_spec.specs.Reply.{block_beside}
use Rattle.sx_spec.specs.StaticFunction.{value_of}
use Rattle.sx_bits.specs.Views.{bits_of}
use Rattle.sx_static.specs.Reading.{answers_by, function_read}
use Rattle.sx_trie.specs.Tries.{node_of}
use Rattle.sx_zfast.specs.Maps.{map_read, numbers_read}
use Rattle.sx_zfast.specs.Views.{corrected_by, nodes_read, signatures_read}
use Rattle.sx_zfast.proofs.BlockCases.{block_by_one, block_corrected, block_searched, block_without, extents_in}
use Rattle.sx_zfast.proofs.view.ZfastView.block.Goals as goal

pub returns-in-Some-clause-value : goal.returns-in-Some-clause-value
returns-in-Some-clause-value g c =
    let v = c.args.self.now in
    block_corrected v.delimiters (nodes_read v) (map_read v.map c.args.seed c.args.sig_bits) (answers_by v.codes c.args.seed c.args.sig_bits) (corrected_by v.corrections c.args.seed c.args.sig_bits) (bits_of c.args.view.now) c.in-Some.block
    (c.in-Some.ensures.value ∙ ap (block_beside (signatures_read v.corrections) (numbers_read v.corrections.blocks)) c.requires.signed)

pub returns-then-self-eq0-clause-value : goal.returns-then-self-eq0-clause-value
returns-then-self-eq0-clause-value g c =
    let v = c.args.self.now in
    let none = c.if-self-eq0.true in
    block_without v.delimiters (nodes_read v) (map_read v.map c.args.seed c.args.sig_bits) (answers_by v.codes c.args.seed c.args.sig_bits) (corrected_by v.corrections c.args.seed c.args.sig_bits) (bits_of c.args.view.now)
    (c.in_default.ensures.value ∙ ap (block_beside (signatures_read v.corrections) (numbers_read v.corrections.blocks)) c.requires.signed) (omega arith)

pub returns-then-self-eq1-clause-value : goal.returns-then-self-eq1-clause-value
returns-then-self-eq1-clause-value g c =
    let v = c.args.self.now in
    let one = c.if-self-eq1.true in
    block_by_one v.delimiters (nodes_read v) (map_read v.map c.args.seed c.args.sig_bits) (answers_by v.codes c.args.seed c.args.sig_bits) (corrected_by v.corrections c.args.seed c.args.sig_bits) (bits_of c.args.view.now) c.answer-code.result
    (c.in_default.ensures.value ∙ ap (block_beside (signatures_read v.corrections) (numbers_read v.corrections.blocks)) c.requires.signed) (omega arith)
    (c.answer-code.ensures.value ∙ ap (value_of (function_read v.codes)) c.requires.signed)

pub returns-in_err-block-clause-value : goal.returns-in_err-block-clause-value
returns-in_err-block-clause-value g c =
    let v = c.args.self.now in
    let none = c.if-self-eq0.false in
    let one = c.if-self-eq1.false in
    c.from_residual.ensures ∙ c.in_err-block.ensures
    ∙ block_searched v.delimiters (nodes_read v) (map_read v.map c.args.seed c.args.sig_bits) (answers_by v.codes c.args.seed c.args.sig_bits) (corrected_by v.corrections c.args.seed c.args.sig_bits) (bits_of c.args.view.now)
    (numbers_read v.extents) (node_of c.node.result) c.search-stop.result.node c.answer-code.result
    (c.in_default.ensures.value ∙ ap (block_beside (signatures_read v.corrections) (numbers_read v.corrections.blocks)) c.requires.signed) (omega arith)
    (extents_in (numbers_read v.extents) (numbers_read v.firsts) (numbers_read v.middles) (numbers_read v.afters) (v.all_firsts ∙ sym v.all_extents) (v.all_middles ∙ sym v.all_extents) (v.all_afters ∙ sym v.all_extents))
    c.search-stop.ensures.value c.node.ensures.value
    (c.answer-code.ensures.value ∙ ap (value_of (function_read v.codes)) c.requires.signed)

pub returns-clause-value : goal.returns-clause-value
returns-clause-value g c =
    let v = c.args.self.now in
    let none = c.if-self-eq0.false in
    let one = c.if-self-eq1.false in
    ap (λ (b : ℕ). Some b) c.from.ensures ∙ c.in_ok-block.ensures
    ∙ block_searched v.delimiters (nodes_read v) (map_read v.map c.args.seed c.args.sig_bits) (answers_by v.codes c.args.seed c.args.sig_bits) (corrected_by v.corrections c.args.seed c.args.sig_bits) (bits_of c.args.view.now)
    (numbers_read v.extents) (node_of c.node.result) c.search-stop.result.node c.answer-code.result
    (c.in_default.ensures.value ∙ ap (block_beside (signatures_read v.corrections) (numbers_read v.corrections.blocks)) c.requires.signed) (omega arith)
    (extents_in (numbers_read v.extents) (numbers_read v.firsts) (numbers_read v.middles) (numbers_read v.afters) (v.all_firsts ∙ sym v.all_extents) (v.all_middles ∙ sym v.all_extents) (v.all_afters ∙ sym v.all_extents))
    c.search-stop.ensures.value c.node.ensures.value
    (c.answer-code.ensures.value ∙ ap (value_of (function_read v.codes)) c.requires.signed)
