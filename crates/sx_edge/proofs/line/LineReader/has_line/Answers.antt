use Rattle.std.proofs.Common.{◌≡◌, arith, rules}
use Rattle.std.proofs.lemmas.Bool.Decides.{nat_tests}
use Rattle.sx_edge.specs.Places.{bytes_between}
use Rattle.sx_edge.proofs.Readies.{ready_is}
use Rattle.sx_edge.proofs.line.LineReader.has_line.Goals as goal

pub returns-then-self-2 : goal.returns-then-self-2
returns-then-self-2 c =
    let held : c.args.self.now.held ≡ bytes_between c.self.inside.buf.items c.self.inside.start c.self.inside.end = search rules in
    let e = ready_is c.args.self.now c.self.inside.buf.items c.self.inside.start c.self.inside.end c.self.inside.feed held c.self.invariant.within c.self.invariant.feed in
    grind (arith, nat_tests, e, c.self.view_is)
