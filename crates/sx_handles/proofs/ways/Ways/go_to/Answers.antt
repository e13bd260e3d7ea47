use Rattle.std.proofs.Common.{◌+◌, List, ℕ, sym, ap, subst, arith}
use Rattle.std.proofs.lemmas.Result.{on_ok_weaker}
use Rattle.sx_trie.specs.Tries.{AreRising, delimiter_bits}
use Rattle.sx_trie.proofs.KeyNumbers.{no_more}
use Rattle.sx_handles.specs.Ways.{IsWayTo, AreWaysBeside}
use Rattle.sx_handles.specs.declared.ways.way_node.WayNode.{WayNode}
use Rattle.sx_handles.proofs.KeyBlocks.{as_many, block_stays, block_goes_on}
use Rattle.sx_handles.proofs.WaysBeside.{ways_go_on}
use Rattle.sx_handles.proofs.ways.Ways.go_to.Goals.{then-block-delimiters-via-then-block-delimiters, then-block-delimiters-via-else-block-delimiters+then-key-delimiters}
use Rattle.sx_handles.proofs.ways.Ways.go_to.Goals as goal

pub returns-then-block-delimiters-clause-block : goal.returns-then-block-delimiters-clause-block
returns-then-block-delimiters-clause-block c =
    let lines = c.args.keys.now.lines in
    let numbers = c.args.delimiters.now in
    let rising = subst (AreRising lines) c.requires.same c.requires.built.rising in
    let many = as_many lines numbers in
    let within = c.requires.ways.within in
    block_stays c.args.keys.now c.len-count.ensures.keys numbers rising c.args.key c.requires.key c.args.self.now.block
    (record { first = c.requires.first; next = c.requires.next }) (omega arith)
    (λ some. elim c.then-block-delimiters.branch [
      | then-block-delimiters-via-then-block-delimiters w ↦ let all = w.if-block-delimiters.true in absurd (omega arith)
      | then-block-delimiters-via-else-block-delimiters+then-key-delimiters w ↦ w.if-key-delimiters.true
    ])

pub overflow_add-self : goal.overflow_add-self
overflow_add-self c =
    let count = c.len-count.ensures.value in
    let lines = c.args.keys.now.lines in
    let numbers = c.args.delimiters.now in
    let few = no_more lines numbers (subst (AreRising lines) c.requires.same c.requires.built.rising) in
    let many = as_many lines numbers in
    let other = c.if-block-delimiters.false in
    let within = c.requires.ways.within in
    omega arith

pub returns-then-block-delimiters-2-clause-block : goal.returns-then-block-delimiters-2-clause-block
returns-then-block-delimiters-2-clause-block c =
    let lines = c.args.keys.now.lines in
    let numbers = c.args.delimiters.now in
    let rising = subst (AreRising lines) c.requires.same c.requires.built.rising in
    let inside = c.if-block-delimiters-2.true in
    let above = c.if-key-delimiters.false in
    on_ok_weaker c.way_to.result
    (λ to. block_goes_on c.args.keys.now c.len-count.ensures.keys numbers rising c.args.key c.requires.key c.args.self.now.block
    (record { first = c.requires.first; next = c.requires.next }) (omega arith) (omega arith)) c.way_to.ensures

pub returns-then-block-delimiters-2-clause-ways : goal.returns-then-block-delimiters-2-clause-ways
returns-then-block-delimiters-2-clause-ways c =
    let lines = c.args.keys.now.lines in
    let numbers = c.args.delimiters.now in
    let ds = delimiter_bits lines numbers in
    let many = as_many lines numbers in
    let inside = c.if-block-delimiters-2.true in
    let block = c.args.self.now.block in
    on_ok_weaker c.way_to.result
    (λ to.
    let own = subst (λ (ns : List ℕ). IsWayTo (delimiter_bits lines ns) (block + 1) c.way_to.new.way.items) c.requires.same to in
    subst (λ (w : List WayNode). AreWaysBeside ds (block + 1) w c.way_to.new.way.items) (ap (λ v. v.items) (sym c.swap.ensures.x_after))
    (ways_go_on ds block c.args.self.now.below.items c.args.self.now.above.items c.way_to.new.way.items (omega arith) c.requires.ways (λ more. own))) c.way_to.ensures

pub returns-clause-block : goal.returns-clause-block
returns-clause-block c =
    let lines = c.args.keys.now.lines in
    let numbers = c.args.delimiters.now in
    let rising = subst (AreRising lines) c.requires.same c.requires.built.rising in
    let many = as_many lines numbers in
    let within = c.requires.ways.within in
    let other = c.if-block-delimiters.false in
    let above = c.if-key-delimiters.false in
    block_goes_on c.args.keys.now c.len-count.ensures.keys numbers rising c.args.key c.requires.key c.args.self.now.block
    (record { first = c.requires.first; next = c.requires.next }) (omega arith) (omega arith)
