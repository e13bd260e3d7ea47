use Rattle.std.proofs.Common.{◌≡◌, ◌-◌, ◌≤◌, rules, arith, refl}
use Rattle.sx_edge.specs.Places.{bytes_between}
use Rattle.sx_edge.proofs.Feeds.{cuts_line, long_line}
use Rattle.sx_edge.proofs.Readies.{ready_ends}
use Rattle.sx_edge.proofs.line.LineReader.cut.Goals as goal

pub returns-then-self-clause-too_long : goal.returns-then-self-clause-too_long
returns-then-self-clause-too_long c = λ n is.
    let held : c.args.self.now.held ≡ bytes_between c.self.inside.buf.items c.self.inside.start c.self.inside.end = search rules in
    let max : c.args.self.now.max ≡ c.self.inside.max = search rules in
    let number : c.args.self.now.number ≡ c.self.inside.number = search rules in (
      cc,
      search rules,
      search rules,
      search rules,
      λ rest. rw (held, max) (long_line c.self.inside.buf.items rest c.self.inside.start c.self.inside.end c.self.inside.feed c.self.inside.max c.self.invariant.within c.self.invariant.feed c.if-self.true),
    )

pub returns-clause-line : goal.returns-clause-line
returns-clause-line c = λ is.
    let held : c.args.self.now.held ≡ bytes_between c.self.inside.buf.items c.self.inside.start c.self.inside.end = search rules in
    let max : c.args.self.now.max ≡ c.self.inside.max = search rules in
    let short : c.self.inside.feed - c.self.inside.start ≤ c.args.self.now.max = omega (arith, max, c.if-self.false) in
    cuts_line c.args.self.now _ c.self.inside.buf.items c.self.inside.start c.self.inside.end c.self.inside.feed c.min-self-inside.result
    held
    refl
    refl
    c.self.invariant.within
    c.self.invariant.feed
    c.if-self-2.false
    short
    (λ last. ready_ends c.args.self.now c.self.inside.buf.items c.self.inside.start c.self.inside.end c.self.inside.feed held c.self.invariant.within c.self.invariant.feed c.requires.ready c.requires.fault last short)
    c.min-self-inside.ensures
    (search rules)
    (search rules)
