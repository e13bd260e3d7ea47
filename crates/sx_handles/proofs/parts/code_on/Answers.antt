use Rattle.std.proofs.Common.{length, sym, ap, subst, ◌∙◌, ◌<◌, arith}
use Rattle.sx_spec_strings.specs.Bits.{Bits, bit_at}
use Rattle.sx_spec_kinds.specs.Trie.{extents_of}
use Rattle.sx_spec_kinds.proofs.TrieLaws.{extents_trie}
use Rattle.sx_bits.specs.Views.{bits_of}
use Rattle.sx_trie.specs.Tries.{node_of, delimiter_bits}
use Rattle.sx_handles.specs.Ways.{key_at}
use Rattle.sx_handles.proofs.CodesByNodes.{end_inside, bit_inside, code_below, code_above, code_first, code_last}
use Rattle.sx_handles.proofs.KeyCodes.{key_read}
use Rattle.sx_handles.proofs.parts.code_on.Goals as goal

pub node-node-requires : goal.node-node-requires
node-node-requires c =
    let lines = c.args.keys.now.lines in
    let ds = delimiter_bits lines c.args.trie.now.delimiters in
    let end = c.deepest.ensures (extents_of ds) (key_at lines c.args.key) (extents_trie ds c.requires.built.keys) c.requires.way in
    end_inside c.args.keys.now c.len-count.ensures.keys c.args.trie.now c.requires.built c.requires.some c.args.key c.requires.key
    c.args.way.now.shared c.args.way.now.nodes.now c.requires.way _ end

pub returns-then-block-node : goal.returns-then-block-node
returns-then-block-node c =
    let lines = c.args.keys.now.lines in
    let ds = delimiter_bits lines c.args.trie.now.delimiters in
    let end = c.deepest.ensures (extents_of ds) (key_at lines c.args.key) (extents_trie ds c.requires.built.keys) c.requires.way in
    code_below c.args.keys.now c.len-count.ensures.keys c.args.trie.now c.requires.built c.requires.some c.args.key c.requires.key
    c.args.way.now.shared c.args.way.now.nodes.now c.requires.way _ end (node_of c.node-node.result) c.node-node.ensures c.args.block c.requires.block c.if-way-node.true c.if-block-node.true

pub returns-else-block-node : goal.returns-else-block-node
returns-else-block-node c =
    let lines = c.args.keys.now.lines in
    let ds = delimiter_bits lines c.args.trie.now.delimiters in
    let end = c.deepest.ensures (extents_of ds) (key_at lines c.args.key) (extents_trie ds c.requires.built.keys) c.requires.way in
    code_above c.args.keys.now c.len-count.ensures.keys c.args.trie.now c.requires.built c.requires.some c.args.key c.requires.key
    c.args.way.now.shared c.args.way.now.nodes.now c.requires.way _ end (node_of c.node-node.result) c.node-node.ensures c.args.block c.requires.block c.if-way-node.true c.if-block-node.false

pub bit-requires : goal.bit-requires
bit-requires c =
    let lines = c.args.keys.now.lines in
    let ds = delimiter_bits lines c.args.trie.now.delimiters in
    let end = c.deepest.ensures (extents_of ds) (key_at lines c.args.key) (extents_trie ds c.requires.built.keys) c.requires.way in
    let read = key_read lines c.args.key (bits_of c.view-view.result) c.requires.key c.view-view.ensures in
    subst (λ (b : Bits). c.node-node.result.extent < length b) (sym read)
    (bit_inside c.args.keys.now c.len-count.ensures.keys c.args.trie.now c.requires.built c.requires.some c.args.key c.requires.key
    c.args.way.now.shared c.args.way.now.nodes.now c.requires.way _ end (node_of c.node-node.result) c.node-node.ensures c.if-way-node.false)

pub returns-then-block-first : goal.returns-then-block-first
returns-then-block-first c =
    let lines = c.args.keys.now.lines in
    let ds = delimiter_bits lines c.args.trie.now.delimiters in
    let end = c.deepest.ensures (extents_of ds) (key_at lines c.args.key) (extents_trie ds c.requires.built.keys) c.requires.way in
    let read = key_read lines c.args.key (bits_of c.view-view.result) c.requires.key c.view-view.ensures in
    let right = c.bit.ensures ∙ ap (λ b. bit_at b c.node-node.result.extent) read in
    let first = c.child_leaves-first.ensures.first in
    code_first c.args.keys.now c.len-count.ensures.keys c.args.trie.now c.requires.built c.requires.some c.args.key c.requires.key
    c.args.way.now.shared c.args.way.now.nodes.now c.requires.way _ end (node_of c.node-node.result) c.node-node.ensures c.args.block c.requires.block
    c.bit.result right c.if-way-node.false (let test = c.if-block-first.true in omega arith)

pub returns-else-block-first : goal.returns-else-block-first
returns-else-block-first c =
    let lines = c.args.keys.now.lines in
    let ds = delimiter_bits lines c.args.trie.now.delimiters in
    let end = c.deepest.ensures (extents_of ds) (key_at lines c.args.key) (extents_trie ds c.requires.built.keys) c.requires.way in
    let read = key_read lines c.args.key (bits_of c.view-view.result) c.requires.key c.view-view.ensures in
    let right = c.bit.ensures ∙ ap (λ b. bit_at b c.node-node.result.extent) read in
    let first = c.child_leaves-first.ensures.first in
    code_last c.args.keys.now c.len-count.ensures.keys c.args.trie.now c.requires.built c.requires.some c.args.key c.requires.key
    c.args.way.now.shared c.args.way.now.nodes.now c.requires.way _ end (node_of c.node-node.result) c.node-node.ensures c.args.block c.requires.block
    c.bit.result right c.if-way-node.false (let test = c.if-block-first.false in omega arith)
