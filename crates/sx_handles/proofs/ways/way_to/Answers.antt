use Rattle.std.proofs.Common.{List, [], ◌∷◌, ◌++◌, sym, ap, subst, ◌∙◌, arith}
use Rattle.sx_trie.specs.Tries.{IsTrieOf, delimiter_bits}
use Rattle.sx_handles.specs.declared.ways.way_node.WayNode.{WayNode}
use Rattle.sx_handles.proofs.KeyBlocks.{as_many}
use Rattle.sx_handles.proofs.WayWalk.{Descends, at_inside, nodes_are, node_found, child_found, right_within, next_inside, way_starts, way_ends, way_goes_on, handle_is}
use Rattle.sx_handles.proofs.ways.way_to.Goals as goal

pub loop-leaf-init : goal.loop-leaf-init
loop-leaf-init c =
    let lines = c.args.keys.now.lines in
    let numbers = c.args.trie.now.delimiters in
    let many = as_many lines numbers in
    let some = c.requires.some in
    let leaf = c.requires.leaf in
    let root : WayNode = record { node = 0; handle = 0 } in
    let is = c.in_ok-push.ensures.items ∙ ap (λ (xs : List WayNode). xs ++ root ∷ []) c.clear.ensures.items in
    λ keys. subst (Descends (delimiter_bits lines numbers) keys c.args.leaf 0) (sym is) (way_starts (delimiter_bits lines numbers) keys c.args.leaf (omega arith) (omega arith))

pub node-requires : goal.node-requires
node-requires c =
    let ds = delimiter_bits c.args.keys.now.lines c.args.trie.now.delimiters in
    let keys = c.requires.built.keys in
    let all = nodes_are c.args.keys.now.lines c.args.trie.now c.requires.built in
    let inside = at_inside ds keys c.args.leaf c.loop-leaf.at c.loop-leaf.way.items (c.loop-leaf.invariant keys) in
    omega arith

pub child-next-requires-clause-left : goal.child-next-requires-clause-left
child-next-requires-clause-left c =
    let n = node_found c.args.keys.now.lines c.args.trie.now c.requires.built c.args.leaf c.loop-leaf.at c.loop-leaf.way.items (c.loop-leaf.invariant c.requires.built.keys) c.node.result c.node.ensures in
    let a = n.first_is in
    let b = n.middle_is in
    omega arith

pub child-next-requires-clause-right : goal.child-next-requires-clause-right
child-next-requires-clause-right c =
    let n = node_found c.args.keys.now.lines c.args.trie.now c.requires.built c.args.leaf c.loop-leaf.at c.loop-leaf.way.items (c.loop-leaf.invariant c.requires.built.keys) c.node.result c.node.ensures in
    let a = n.middle_is in
    let b = n.after_is in
    let less = n.left_less in
    omega arith

pub child-next-requires-clause-next : goal.child-next-requires-clause-next
child-next-requires-clause-next c =
    let all = nodes_are c.args.keys.now.lines c.args.trie.now c.requires.built in
    let inside = at_inside (delimiter_bits c.args.keys.now.lines c.args.trie.now.delimiters) c.requires.built.keys c.args.leaf c.loop-leaf.at c.loop-leaf.way.items (c.loop-leaf.invariant c.requires.built.keys) in
    let count = c.nodes-count.ensures in
    omega arith

pub child-next-requires-clause-few : goal.child-next-requires-clause-few
child-next-requires-clause-few c =
    λ more.
    let within = right_within c.args.keys.now.lines c.args.trie.now c.requires.built c.args.leaf c.loop-leaf.at c.loop-leaf.way.items (c.loop-leaf.invariant c.requires.built.keys) c.node.result c.node.ensures more in
    let count = c.nodes-count.ensures in
    omega arith

pub returns-then-leaves-eq1 : goal.returns-then-leaves-eq1
returns-then-leaves-eq1 c =
    let ds = delimiter_bits c.args.keys.now.lines c.args.trie.now.delimiters in
    let keys = c.requires.built.keys in
    let h = c.loop-leaf.invariant keys in
    let t = child_found c.args.keys.now.lines c.args.trie.now c.requires.built c.args.leaf c.loop-leaf.at c.loop-leaf.way.items h c.node.result c.node.ensures c.child-next.result.0 c.child-next.result.1 c.child-next.ensures.left c.child-next.ensures.right in
    way_ends ds keys c.args.leaf c.loop-leaf.at c.loop-leaf.way.items h c.child-next.result.0 c.child-next.result.1 t c.if-leaves-eq1.true

pub handle_len-requires-clause-some : goal.handle_len-requires-clause-some
handle_len-requires-clause-some c =
    let h = c.loop-leaf.invariant c.requires.built.keys in
    let t = child_found c.args.keys.now.lines c.args.trie.now c.requires.built c.args.leaf c.loop-leaf.at c.loop-leaf.way.items h c.node.result c.node.ensures c.child-next.result.0 c.child-next.result.1 c.child-next.ensures.left c.child-next.ensures.right in
    let farther = t.farther in
    omega arith

pub handle_len-requires-clause-inside : goal.handle_len-requires-clause-inside
handle_len-requires-clause-inside c =
    let ds = delimiter_bits c.args.keys.now.lines c.args.trie.now.delimiters in
    let keys = c.requires.built.keys in
    let h = c.loop-leaf.invariant keys in
    let t = child_found c.args.keys.now.lines c.args.trie.now c.requires.built c.args.leaf c.loop-leaf.at c.loop-leaf.way.items h c.node.result c.node.ensures c.child-next.result.0 c.child-next.result.1 c.child-next.ensures.left c.child-next.ensures.right in
    let some = t.stands.some in
    let other = c.if-leaves-eq1.false in
    let all = nodes_are c.args.keys.now.lines c.args.trie.now c.requires.built in
    let inside = next_inside ds keys c.args.leaf c.loop-leaf.at c.loop-leaf.way.items h c.child-next.result.0 c.child-next.result.1 t (omega arith) in
    omega arith

pub loop-leaf-smaller : goal.loop-leaf-smaller
loop-leaf-smaller c =
    let h = c.loop-leaf.invariant c.requires.built.keys in
    let t = child_found c.args.keys.now.lines c.args.trie.now c.requires.built c.args.leaf c.loop-leaf.at c.loop-leaf.way.items h c.node.result c.node.ensures c.child-next.result.0 c.child-next.result.1 c.child-next.ensures.left c.child-next.ensures.right in
    let farther = t.farther in
    let all = nodes_are c.args.keys.now.lines c.args.trie.now c.requires.built in
    let inside = at_inside (delimiter_bits c.args.keys.now.lines c.args.trie.now.delimiters) c.requires.built.keys c.args.leaf c.loop-leaf.at c.loop-leaf.way.items (c.loop-leaf.invariant c.requires.built.keys) in
    omega arith

pub loop-leaf-preserved : goal.loop-leaf-preserved
loop-leaf-preserved c =
    let lines = c.args.keys.now.lines in
    let ds = delimiter_bits lines c.args.trie.now.delimiters in
    λ keys.
    let built : IsTrieOf lines c.args.trie.now = record { rising = c.requires.built.rising; keys = keys; nodes = c.requires.built.nodes; names = c.requires.built.names } in
    let h = c.loop-leaf.invariant keys in
    let t = child_found lines c.args.trie.now built c.args.leaf c.loop-leaf.at c.loop-leaf.way.items h c.node.result c.node.ensures c.child-next.result.0 c.child-next.result.1 c.child-next.ensures.left c.child-next.ensures.right in
    let some = t.stands.some in
    let other = c.if-leaves-eq1.false in
    let all = nodes_are lines c.args.trie.now built in
    let inside = next_inside ds keys c.args.leaf c.loop-leaf.at c.loop-leaf.way.items h c.child-next.result.0 c.child-next.result.1 t (omega arith) in
    let handle = c.handle_len.ensures ∙ handle_is lines c.args.trie.now built c.child-next.result.0 (omega arith) in
    subst (Descends ds keys c.args.leaf c.child-next.result.0) (sym c.in_ok-push-2.ensures.items)
    (way_goes_on ds keys c.args.leaf c.loop-leaf.at c.loop-leaf.way.items h c.child-next.result.0 c.child-next.result.1 t (omega arith) c.handle_len.result handle)
