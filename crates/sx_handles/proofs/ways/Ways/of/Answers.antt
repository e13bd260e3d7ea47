use Rattle.std.proofs.Common.{ℕ, ◌-◌, List, [], length, get_or, sym, ap, subst, ◌∙◌, arith}
use Rattle.sx_spec_strings.specs.Bits.{AreKeyBits, common_prefix}
use Rattle.sx_spec_kinds.specs.Trie.{extents_of}
use Rattle.sx_bits.specs.Views.{bits_of}
use Rattle.sx_trie.specs.Tries.{AreRising, delimiter_bits}
use Rattle.sx_handles.specs.Ways.{IsWayOf, key_at}
use Rattle.sx_handles.proofs.KeyBlocks.{as_many}
use Rattle.sx_handles.proofs.WaysBeside.{shared_is, way_above, way_below}
use Rattle.sx_handles.proofs.ways.Ways.of.Goals as goal

pub returns-then-block-eq0 : goal.returns-then-block-eq0
returns-then-block-eq0 c =
    let lines = c.args.keys.now.lines in
    let numbers = c.args.delimiters.now in
    let ds = delimiter_bits lines numbers in
    let x = key_at lines c.args.key in
    let keys = subst (λ (ns : List ℕ). AreKeyBits (delimiter_bits lines ns)) c.requires.same c.requires.built.keys in
    let rising = subst (AreRising lines) c.requires.same c.requires.built.rising in
    let block = c.args.self.now.block in
    let none = c.if-block-eq0.true in
    let some = c.requires.some in
    let own = c.lcp-shared.ensures.value ∙ shared_is lines numbers rising c.args.key 0 c.requires.key (omega arith) (bits_of c.view-view.result) (bits_of c.view.result) c.view-view.ensures c.view.ensures
    ∙ ap (λ n. length (common_prefix x (get_or ds n []))) (sym none) in
    subst (IsWayOf (extents_of ds) x c.lcp-shared.result) (sym c.deref.ensures.value)
    (way_above lines numbers keys c.args.key block c.requires.block c.args.self.now.below.items c.args.self.now.above.items c.requires.ways c.lcp-shared.result (omega arith) own (λ more. absurd (omega arith)))

pub returns-then-block-delimiters : goal.returns-then-block-delimiters
returns-then-block-delimiters c =
    let lines = c.args.keys.now.lines in
    let numbers = c.args.delimiters.now in
    let ds = delimiter_bits lines numbers in
    let x = key_at lines c.args.key in
    let keys = subst (λ (ns : List ℕ). AreKeyBits (delimiter_bits lines ns)) c.requires.same c.requires.built.keys in
    let rising = subst (AreRising lines) c.requires.same c.requires.built.rising in
    let block = c.args.self.now.block in
    let some = c.if-block-eq0.false in
    let last = c.if-block-delimiters.true in
    let own = c.lcp-below.ensures.value ∙ shared_is lines numbers rising c.args.key (block - 1) c.requires.key (omega arith) (bits_of c.view-view.result) (bits_of c.view-2.result) c.view-view.ensures c.view-2.ensures in
    subst (IsWayOf (extents_of ds) x c.lcp-below.result) (sym c.deref-then-block-delimiters.ensures.value)
    (way_below lines numbers keys c.args.key block c.requires.block c.args.self.now.below.items c.args.self.now.above.items c.requires.ways c.lcp-below.result (omega arith) own (λ more. absurd (omega arith)))

pub returns-then-above-below : goal.returns-then-above-below
returns-then-above-below c =
    let lines = c.args.keys.now.lines in
    let numbers = c.args.delimiters.now in
    let ds = delimiter_bits lines numbers in
    let x = key_at lines c.args.key in
    let keys = subst (λ (ns : List ℕ). AreKeyBits (delimiter_bits lines ns)) c.requires.same c.requires.built.keys in
    let rising = subst (AreRising lines) c.requires.same c.requires.built.rising in
    let many = as_many lines numbers in
    let within = c.requires.ways.within in
    let block = c.args.self.now.block in
    let some = c.if-block-eq0.false in
    let other = c.if-block-delimiters.false in
    let less = c.if-above-below.true in
    let own = c.lcp-below.ensures.value ∙ shared_is lines numbers rising c.args.key (block - 1) c.requires.key (omega arith) (bits_of c.view-view.result) (bits_of c.view-2.result) c.view-view.ensures c.view-2.ensures in
    let next = c.lcp-above.ensures.value ∙ shared_is lines numbers rising c.args.key block c.requires.key (omega arith) (bits_of c.view-view.result) (bits_of c.view-3.result) c.view-view.ensures c.view-3.ensures in
    subst (IsWayOf (extents_of ds) x c.lcp-below.result) (sym c.deref-then-above-below.ensures.value)
    (way_below lines numbers keys c.args.key block c.requires.block c.args.self.now.below.items c.args.self.now.above.items c.requires.ways c.lcp-below.result (omega arith) own (λ more. omega arith))

pub returns : goal.returns
returns c =
    let lines = c.args.keys.now.lines in
    let numbers = c.args.delimiters.now in
    let ds = delimiter_bits lines numbers in
    let x = key_at lines c.args.key in
    let keys = subst (λ (ns : List ℕ). AreKeyBits (delimiter_bits lines ns)) c.requires.same c.requires.built.keys in
    let rising = subst (AreRising lines) c.requires.same c.requires.built.rising in
    let many = as_many lines numbers in
    let within = c.requires.ways.within in
    let block = c.args.self.now.block in
    let some = c.if-block-eq0.false in
    let other = c.if-block-delimiters.false in
    let more = c.if-above-below.false in
    let before = c.lcp-below.ensures.value ∙ shared_is lines numbers rising c.args.key (block - 1) c.requires.key (omega arith) (bits_of c.view-view.result) (bits_of c.view-2.result) c.view-view.ensures c.view-2.ensures in
    let own = c.lcp-above.ensures.value ∙ shared_is lines numbers rising c.args.key block c.requires.key (omega arith) (bits_of c.view-view.result) (bits_of c.view-3.result) c.view-view.ensures c.view-3.ensures in
    subst (IsWayOf (extents_of ds) x c.lcp-above.result) (sym c.deref-2.ensures.value)
    (way_above lines numbers keys c.args.key block c.requires.block c.args.self.now.below.items c.args.self.now.above.items c.requires.ways c.lcp-above.result (omega arith) own (λ s. omega arith))
