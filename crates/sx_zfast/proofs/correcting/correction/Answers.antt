use Rattle.std.proofs.Common.{◌≡◌, ℕ, not, sym, ap, subst, ◌∙◌, arith}
use Rattle.sx_spec_strings.specs.Bits.{Bits}
use Rattle.sx_spec_kinds.specs.Trie.{Node, node_at, extents_of}
use Rattle.sx_spec_kinds.specs.Zfast.{block_from, code_of, false_probes, probed_search_of}
use Rattle.std.specs.List.{slice_index}
use Rattle.sx_bits.specs.Views.{bits_of}
use Rattle.sx_trie.specs.Tries.{delimiter_bits}
use Rattle.sx_handles.specs.Ways.{IsWayOf, key_at}
use Rattle.sx_zfast.specs.Maps.{map_read}
use Rattle.sx_zfast.specs.Memo.{AreKnown}
use Rattle.sx_zfast.proofs.ProbeStages.{lens_in}
use Rattle.sx_zfast.proofs.MisledKeys.{view_bits, code_read, codes_count, misled_is, none_corrected, some_corrected}
use Rattle.sx_zfast.proofs.correcting.correction.Goals as goal

pub index-requires : goal.index-requires
index-requires g c =
    let lines = c.args.keys.now.lines in
    let ds = delimiter_bits lines c.args.reach.now.trie.now.delimiters in
    let size = codes_count lines ds c.args.parts.now.codes.items c.requires.parts.codes in
    let inside = c.requires.key in
    omega arith

pub probed_search-node-requires-clause-way : goal.probed_search-node-requires-clause-way
probed_search-node-requires-clause-way g c =
    let lines = c.args.keys.now.lines in
    let own : bits_of c.view-view.result ≡ key_at lines c.args.key = view_bits lines c.args.key (bits_of c.view-view.result) c.requires.key c.view-view.ensures in
    subst (λ (x : Bits). IsWayOf (extents_of (delimiter_bits lines c.args.reach.now.trie.now.delimiters)) x c.args.way.now.shared c.args.way.now.nodes.now) (sym own) c.requires.way

pub first_false_probe-requires-clause-way : goal.first_false_probe-requires-clause-way
first_false_probe-requires-clause-way g c =
    let lines = c.args.keys.now.lines in
    let own : bits_of c.view-view.result ≡ key_at lines c.args.key = view_bits lines c.args.key (bits_of c.view-view.result) c.requires.key c.view-view.ensures in
    subst (λ (x : Bits). IsWayOf (extents_of (delimiter_bits lines c.args.reach.now.trie.now.delimiters)) x c.args.way.now.shared c.args.way.now.nodes.now) (sym own) c.requires.way

pub returns-then-is_block-clause-value : goal.returns-then-is_block-clause-value
returns-then-is_block-clause-value g c =
    let m = map_read c.args.map.now c.args.signing.seed c.args.signing.sig_bits in
    let lines = c.args.keys.now.lines in
    let t = c.args.reach.now.trie.now in
    let ds = delimiter_bits lines t.delimiters in
    let x = key_at lines c.args.key in
    let own : bits_of c.view-view.result ≡ x = view_bits lines c.args.key (bits_of c.view-view.result) c.requires.key c.view-view.ensures in
    let v = c.probed_search-node.result in
    let ends : v ≡ (probed_search_of m (lens_in t.nodes) x).node =
    c.probed_search-node.ensures.value ∙ ap (λ (y : Bits). (probed_search_of m (lens_in t.nodes) y).node) own
    in
    let code : c.from-code.result ≡ code_of ds x =
    c.from-code.ensures ∙ code_read lines ds c.args.parts.now.codes.items c.args.key _ _ c.requires.key c.requires.parts.codes c.index.ensures
    in
    let found : c.block_from.result ≡ block_from (node_at t.nodes v) (code_of ds x) x =
    c.block_from.ensures
    ∙ ap (λ (w : Node). block_from w c.from-code.result (bits_of c.view-view.result)) c.node.ensures
    ∙ ap (λ (k : ℕ). block_from (node_at t.nodes v) k (bits_of c.view-view.result)) code
    ∙ ap (block_from (node_at t.nodes v) (code_of ds x)) own
    in
    none_corrected m ds c.args.key x
    (misled_is m lines t x v c.args.block c.block_from.result c.requires.built ends found c.requires.block
    ∙ ap not (sym c.is_block.ensures ∙ c.if-is_block.true))

pub returns-clause-value : goal.returns-clause-value
returns-clause-value g c =
    let m = map_read c.args.map.now c.args.signing.seed c.args.signing.sig_bits in
    let lines = c.args.keys.now.lines in
    let t = c.args.reach.now.trie.now in
    let ds = delimiter_bits lines t.delimiters in
    let x = key_at lines c.args.key in
    let own : bits_of c.view-view.result ≡ x = view_bits lines c.args.key (bits_of c.view-view.result) c.requires.key c.view-view.ensures in
    let v = c.probed_search-node.result in
    let ends : v ≡ (probed_search_of m (lens_in t.nodes) x).node =
    c.probed_search-node.ensures.value ∙ ap (λ (y : Bits). (probed_search_of m (lens_in t.nodes) y).node) own
    in
    let code : c.from-code.result ≡ code_of ds x =
    c.from-code.ensures ∙ code_read lines ds c.args.parts.now.codes.items c.args.key _ _ c.requires.key c.requires.parts.codes c.index.ensures
    in
    let found : c.block_from.result ≡ block_from (node_at t.nodes v) (code_of ds x) x =
    c.block_from.ensures
    ∙ ap (λ (w : Node). block_from w c.from-code.result (bits_of c.view-view.result)) c.node.ensures
    ∙ ap (λ (k : ℕ). block_from (node_at t.nodes v) k (bits_of c.view-view.result)) code
    ∙ ap (block_from (node_at t.nodes v) (code_of ds x)) own
    in
    some_corrected m ds c.args.key x _ _
    (misled_is m lines t x v c.args.block c.block_from.result c.requires.built ends found c.requires.block
    ∙ ap not (sym c.is_block.ensures ∙ c.if-is_block.false))
    (c.first_false_probe.ensures.value ∙ ap (λ (y : Bits). slice_index (false_probes m (extents_of ds) y) 0) own)
    c.requires.block

pub probed_search-node-requires-clause-memo : goal.probed_search-node-requires-clause-memo
probed_search-node-requires-clause-memo g c =
    let lines = c.args.keys.now.lines in
    let own : bits_of c.view-view.result ≡ key_at lines c.args.key = view_bits lines c.args.key (bits_of c.view-view.result) c.requires.key c.view-view.ensures in
    subst (λ (x : Bits). AreKnown (map_read c.args.map.now c.args.signing.seed c.args.signing.sig_bits) x c.args.memo.now.slots) (sym own) c.requires.memo

pub returns-then-is_block-clause-memo : goal.returns-then-is_block-clause-memo
returns-then-is_block-clause-memo g c =
    let lines = c.args.keys.now.lines in
    let own : bits_of c.view-view.result ≡ key_at lines c.args.key = view_bits lines c.args.key (bits_of c.view-view.result) c.requires.key c.view-view.ensures in
    subst (λ (x : Bits). AreKnown (map_read c.args.map.now c.args.signing.seed c.args.signing.sig_bits) x c.probed_search-node.new.memo.slots) own c.probed_search-node.ensures.memo

pub returns-clause-memo : goal.returns-clause-memo
returns-clause-memo g c =
    let lines = c.args.keys.now.lines in
    let own : bits_of c.view-view.result ≡ key_at lines c.args.key = view_bits lines c.args.key (bits_of c.view-view.result) c.requires.key c.view-view.ensures in
    subst (λ (x : Bits). AreKnown (map_read c.args.map.now c.args.signing.seed c.args.signing.sig_bits) x c.probed_search-node.new.memo.slots) own c.probed_search-node.ensures.memo
