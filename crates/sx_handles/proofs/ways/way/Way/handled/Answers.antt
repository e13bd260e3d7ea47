use Rattle.std.proofs.Common.{arith}
use Rattle.sx_handles.proofs.OnWay.{none_beyond, none_handled, some_handled}
use Rattle.sx_handles.proofs.ways.way.Way.handled.Goals as goal
use Rattle.sx_handles.proofs.ways.way.Way.handled.Goals.{else-last-gt0-via-then-last-gt0+else-last-len, else-last-gt0-via-else-last-gt0}

pub returns-then-self-len : goal.returns-then-self-len
returns-then-self-len c = λ es x trie is fits.
    none_beyond es trie x c.args.self.now.shared c.args.self.now.nodes.now is c.args.len fits c.if-self-len.true

pub returns-then-last-len : goal.returns-then-last-len
returns-then-last-len c = λ es x trie is fits.
    let within = c.if-self-len.false in
    some_handled es trie x c.args.self.now.shared c.args.self.now.nodes.now is c.args.len fits c.last.result
    (record { inside = c.last.ensures.inside; short = c.last.ensures.short; beyond = c.last.ensures.beyond })
    c.if-last-gt0.true c.if-last-len.true (omega arith)

pub returns-else-last-gt0 : goal.returns-else-last-gt0
returns-else-last-gt0 c = λ es x trie is fits.
    none_handled es trie x c.args.self.now.shared c.args.self.now.nodes.now is c.args.len fits c.last.result
    (record { inside = c.last.ensures.inside; short = c.last.ensures.short; beyond = c.last.ensures.beyond })
    (λ some size.
    elim c.else-last-gt0.branch [
      | else-last-gt0-via-then-last-gt0+else-last-len w ↦ w.if-last-len.false size
      | else-last-gt0-via-else-last-gt0 w ↦ let none = w.if-last-gt0.false in omega arith
    ])
